-- `bench_line::numbers::are_digits` meets its contract. The library's hex digits are those of base 16. Assumes nothing.
use Rattle.std.proofs.Common.{◌≡◌, Bool, ℕ, refl, ◌∙◌, rules, tests}
use Rattle.std.specs.Char.{is_ascii_hexdigit}
use Rattle.std.proofs.lemmas.Iterator.{YieldsList-from_slice}
use Rattle.std.proofs.lemmas.Iterator.Search.{all_from_yields_List}
use Rattle.common.specs.Texts.{is_digit}
use Rattle.bench_line.proofs.Pairs.{hex_digit}
use Rattle.bench_line.proofs.numbers.are_digits.Goals as goal

pub returns : goal.returns
returns c =
    let test : ℕ → Bool = λ x. is_digit 16 x in
    all_from_yields_List test _ _ c.all.result c.all.ensures.ran (YieldsList-from_slice c.args.hex.now c.iter.ensures.rest)
    (λ x b q h. let m : b ≡ is_ascii_hexdigit x.now = search (rules, tests) in (refl, m ∙ hex_digit x.now))
