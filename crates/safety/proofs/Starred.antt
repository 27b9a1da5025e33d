-- Document 01: "The starred cases form one checked table with a single theorem about the rules". Its value is the list of wrong cases.
-- Computed. Assumes nothing.
use mathlib.Core.List.{[]}
use mathlib.Core.Path.{◌≡◌, refl}
use Rattle.post.specs.All.{post_rules}
use Rattle.safety.specs.Starred.{cases, wrong}

pub none_wrong : wrong cases ≡ []
unfolding cases post_rules
none_wrong = refl
