pub mod Credits
pub mod Tops
