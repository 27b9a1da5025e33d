-- Laws. For the functions here: a question and its answer, a test of all records, a table filled place by place, a fresh post, what it says that nothing is refused, the level, the table as the
-- post after the tick, and what a call returns. For those above: a post's bytes (Posts) and their tick (RuledTicks).
pub mod Numbers
pub mod Chunks
pub mod Tables
pub mod FreshPosts
pub mod Taken
pub mod Levels
pub mod Divided
pub mod Returned
pub mod Posts
pub mod RuledTicks
