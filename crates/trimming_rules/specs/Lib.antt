-- 02's C-13: the rules and what is left when none applies (Trimming), what holds of it (Proved), the trimmings worked by hand (Worked);
-- and the same in rounds, as the code makes it (Private).
pub mod Trimming
pub mod Proved
pub mod Worked
pub mod Private
