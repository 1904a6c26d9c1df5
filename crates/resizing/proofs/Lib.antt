mod BlockMoving
pub mod ResizeLaws
