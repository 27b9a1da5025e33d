-- `post::head::Head::read` meets its contract. By the numbers that are read. Assumes nothing.
use Rattle.post.specs.Heads.{head_of}
use Rattle.post.proofs.head.Head.read.Goals as goal

pub returns : goal.returns
unfolding head_of
returns c =
    rw (c.u32_at.ensures, c.u16_at.ensures)
