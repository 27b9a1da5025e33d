-- How large the lent buffers are. Definitions only.
use Rattle.std.specs.Prelude.{ℕ, ◌+◌, ◌-◌, ◌*◌, ◌/◌, length}
use Rattle.post.specs.Heads.{most_leads, state_length, output_length}
use Rattle.bench_line.specs.Lines.{longest, tick_word}

-- the state and the output of as many leads as a post may have
abbrev pub state_room : ℕ
state_room = state_length most_leads

abbrev pub output_room : ℕ
output_room = output_length most_leads

-- the most bytes that a line can say: pairs of digits behind `tick` and a tab
abbrev pub input_room : ℕ
input_room = (longest - (length tick_word + 1)) / 2

-- one character more than a line may have: a longer line is too long whatever follows
abbrev pub line_room : ℕ
line_room = longest + 1

-- the longest answer: `0`, a tab, the output in hex and a line feed
abbrev pub answer_room : ℕ
answer_room = 2 * output_room + 3
