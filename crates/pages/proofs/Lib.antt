mod PageLinks
mod PageMaking
