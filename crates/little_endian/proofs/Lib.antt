-- Laws: a byte of bits, and numbers to bytes and back.
pub mod Bits
pub mod Bytes
