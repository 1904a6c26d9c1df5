mod FreeLaws
mod Allocating
