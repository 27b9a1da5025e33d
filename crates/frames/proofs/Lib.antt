-- Laws: the newest frames among the records passed; what remains of a charging time fits its byte.
pub mod Passed
pub mod TimeBounds
