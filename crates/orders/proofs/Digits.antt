-- Digits from a place on, up to a tab or a line feed, and the number that they are. Assumes nothing.
use mathlib.Core.Bool.{Bool, true, false, cond}
use mathlib.Core.List.{List, [], ◌∷◌}
use mathlib.Core.Path.{◌≡◌, refl, sym, ap, ◌∙◌}
use Prim.Native.Nat.{ℕ, suc, ◌+◌, ◌*◌, ◌≤◌, ◌<◌}
use native.Mathlib.Omega.{arith}
use lib.Dec.{leb}
use borrow.Author.Tests.{le-leb, leb-true, leb-false, ltb-true, ne_eqb}
use Rattle.std.specs.Prelude.{Option, Some, None, option_map}
use Rattle.common.specs.Texts.{digit_value, is_digit, number_in}
use Rattle.common.proofs.Texts.{number_from, number_begins, number_too_great}
use Rattle.orders.specs.Numbers.{is_plain, most, number_of}
use Rattle.orders.specs.Scans.{is_mark, first_field, field_length, digits_from, number_at}

-- a digit ends no field
tab_value : digit_value 9 ≡ 16
unfolding digit_value
tab_value = refl

feed_value : digit_value 10 ≡ 16
unfolding digit_value
feed_value = refl

digit_inside : (c : ℕ) → digit_value c < 10 → is_mark c ≡ false
unfolding is_mark
digit_inside c d =
    rw (ne_eqb c 9 (λ e. omega (arith, tab_value, ap digit_value e)), ne_eqb c 10 (λ e. omega (arith, feed_value, ap digit_value e)))

-- digits are the number that the first field is, if they are digits only and the number is not too great
abbrev placed : ℕ → Option ℕ → Option (ℕ × ℕ)
placed k x = option_map (λ v. (v, k)) x

digits_are : (n i : ℕ) (s : List ℕ) → n ≤ most → digits_from n i s ≡ placed (i + field_length s) (number_from 10 most n (first_field s))
unfolding number_from
digits_are n i [] h = let e : i + 0 ≡ i = omega arith in rw (le-leb n most h, e)
digits_are n i (c ∷ s) h = go (is_digit 10 c) refl (is_mark c) refl (leb m most) refl (λ g. digits_are m (suc i) s g)
  where
    m : ℕ
    m = 10 * n + digit_value c

    k : ℕ
    k = i + field_length (c ∷ s)

    Told : Option (ℕ × ℕ) → Type 0
    Told x = x ≡ placed k (number_from 10 most n (first_field (c ∷ s)))

    mark : is_digit 10 c ≡ true → is_mark c ≡ false
    mark e = digit_inside c (ltb-true (digit_value c) 10 e)

    here : is_digit 10 c ≡ true → number_from 10 most n (first_field (c ∷ s)) ≡ number_from 10 most m (first_field s)
    here e = rw (mark e, e)

    go :
        (d : Bool)
        → is_digit 10 c ≡ d
        → (b : Bool)
        → is_mark c ≡ b
        → (l : Bool)
        → leb m most ≡ l
        → (m ≤ most → digits_from m (suc i) s ≡ placed (suc i + field_length s) (number_from 10 most m (first_field s)))
        → Told (cond d (cond l (digits_from m (suc i) s) None) (cond b (Some (n, i)) None))
    go true e b f true g more =
        let p : i + suc (field_length s) ≡ suc i + field_length s = omega arith in
        rw (here e, mark e, p) (more (leb-true m most g))
    go true e b f false g more = rw (here e, number_too_great 10 most (first_field s) m (omega arith) (leb-false m most g))
    go false e true f l g more = let p : i + 0 ≡ i = omega arith in rw (f, le-leb n most h, p)
    go false e false f l g more = rw (f, e)

module _ (s : List ℕ) where
  -- the number is that of the digits, where the field is plain
  number_is : number_at s ≡ cond (is_plain (first_field s)) (digits_from 0 0 s) None
  unfolding number_at number_of
  number_is = go (is_plain (first_field s)) ∙ ap (λ x. cond (is_plain (first_field s)) x None) (sym told)
    where
      told : digits_from 0 0 s ≡ placed (field_length s) (number_in 10 most (first_field s))
      told =
          let e : 0 + field_length s ≡ field_length s = omega arith in
          digits_are 0 0 s (omega arith)
          ∙ ap (λ k. placed k (number_from 10 most 0 (first_field s))) e
          ∙ ap (placed (field_length s)) (sym (number_begins 10 most (first_field s)))

      go :
          (b : Bool)
          → placed (field_length s) (cond b (number_in 10 most (first_field s)) None)
          ≡ cond b (placed (field_length s) (number_in 10 most (first_field s))) None
      go true = refl
      go false = refl

  -- how long the digits are
  pub digits_length : (v k : ℕ) → Some (v, k) ≡ digits_from 0 0 s → k ≡ field_length s
  digits_length v k q = go (number_from 10 most 0 (first_field s)) (q ∙ digits_are 0 0 s (omega arith))
    where
      go : (x : Option ℕ) → Some (v, k) ≡ placed (0 + field_length s) x → k ≡ field_length s
      go (Some w) q = let same : ◌≡◌ {A = ℕ × ℕ} (v, k) (w, 0 + field_length s) = cc in omega (arith, ap (λ p. p.1) same)
      go None q = absurd cc

  pub number_plain : (x : Option (ℕ × ℕ)) → x ≡ digits_from 0 0 s → is_plain (first_field s) ≡ true → x ≡ number_at s
  number_plain x e p = e ∙ sym (number_is ∙ ap (λ b. cond b (digits_from 0 0 s) None) p)

  pub number_not_plain : is_plain (first_field s) ≡ false → None ≡ number_at s
  number_not_plain p = sym (number_is ∙ ap (λ b. cond b (digits_from 0 0 s) None) p)

  pub number_none : None ≡ digits_from 0 0 s → None ≡ number_at s
  number_none e = go (is_plain (first_field s)) refl
    where
      go : (b : Bool) → is_plain (first_field s) ≡ b → None ≡ number_at s
      go true p = number_plain None e p
      go false p = number_not_plain p
