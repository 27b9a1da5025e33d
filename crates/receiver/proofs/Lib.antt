-- Laws: what is computed at every status and mailbox, a status by its bits, the order of the full mailboxes, and what the code leaves.
pub mod Computed
pub mod Bits
pub mod Order
pub mod Coded
