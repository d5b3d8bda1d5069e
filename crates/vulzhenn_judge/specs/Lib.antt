-- That the program takes in enough of a file.
pub mod Cut
