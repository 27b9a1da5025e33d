-- `post::head::Head::bytes` meets its contract. By the bytes of its numbers. Assumes nothing.
use mathlib.Core.Path.{◌∙◌}
use Rattle.post.specs.Heads.{head_bytes}
use Rattle.post.proofs.head.Head.bytes.Goals as goal

pub returns : goal.returns
unfolding head_bytes
returns c =
    rw (c.copy_from_slice.ensures.after ∙ c.u16_bytes.ensures, c.copy_from_slice-2.ensures.after ∙ c.u32_bytes.ensures)
