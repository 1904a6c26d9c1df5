pub mod ReshapeLaws
