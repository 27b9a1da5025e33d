-- Laws: of tests, of a list by its elements or copied over a buffer, of records put together and tested one by one, of what is refused and how
-- it is asked, and of texts.
pub mod Bools
pub mod Spelled
pub mod Copied
pub mod Joined
pub mod Every
pub mod Refused
pub mod Asked
pub mod Texts
