-- A status by its bits, as the code puts it together. Assumes nothing.
use mathlib.Core.Bool.{Bool, not, ◌&&◌, ◌||◌, beq}
use mathlib.Core.List.{[], ◌∷◌, map}
use mathlib.Core.Path.{◌≡◌, sym, ap, ◌∙◌}
use Prim.Native.Nat.{ℕ, ◌-◌, ◌*◌, ◌/◌, ◌%◌, ◌^◌, ◌<◌}
use native.Mathlib.Omega.{arith}
use lib.Bits.{bit_and, bit_or, and_shr, and_mod, and_lt}
use lib.Dec.{eqb, eqb→eq}
use Rattle.common.proofs.Bools.{up_to, up_to_at}
use Rattle.little_endian.specs.Flags.{bit_at}
use Rattle.little_endian.proofs.Bits.{byte_below}
use Rattle.receiver.specs.Registers.{mailbox_count, status_of}
use Rattle.receiver.specs.Chip.{some}
use Rattle.receiver.proofs.Computed.{computed, same_answers}

pub status_byte : (test : ℕ → Bool) → status_of test < 256
unfolding status_of
status_byte test = byte_below (map test (0 ∷ 1 ∷ 2 ∷ 3 ∷ 4 ∷ 5 ∷ 6 ∷ 7 ∷ []))

-- tests that agree on the mailboxes
same_status : (p q : ℕ → Bool) → ((k : ℕ) → k < mailbox_count → p k ≡ q k) → status_of p ≡ status_of q
unfolding status_of
same_status p q e =
    rw (
      e 0 (omega arith),
      e 1 (omega arith),
      e 2 (omega arith),
      e 3 (omega arith),
      e 4 (omega arith),
      e 5 (omega arith),
      e 6 (omega arith),
      e 7 (omega arith),
    )

module _ (x m : ℕ) (byte : x < 256) (low : m < mailbox_count) where
  pub with_bit : bit_or x (1 * 2 ^ m % 256) ≡ status_of (λ k. bit_at k x || eqb k m)
  unfolding status_of
  with_bit = eqb→eq _ _ (computed (λ x m. eqb (bit_or x (1 * 2 ^ m % 256)) (status_of (λ k. bit_at k x || eqb k m))) tt x m byte low)

  pub without_bit : bit_and x (255 - 1 * 2 ^ m % 256) ≡ status_of (λ k. bit_at k x && not (eqb k m))
  unfolding status_of
  without_bit =
      eqb→eq _ _ (computed (λ x m. eqb (bit_and x (255 - 1 * 2 ^ m % 256)) (status_of (λ k. bit_at k x && not (eqb k m)))) tt x m byte low)

  not_bit : bit_at m (255 - x) ≡ not (bit_at m x)
  not_bit = same_answers _ _ (computed (λ x m. beq (bit_at m (255 - x)) (not (bit_at m x))) tt x m byte low)

module _ (x : ℕ) (byte : x < 256) where
  bits_back : status_of (λ k. bit_at k x) ≡ x
  unfolding status_of
  bits_back = eqb→eq _ _ (up_to_at 255 (λ x. eqb (status_of (λ k. bit_at k x)) x) tt x (omega arith))

  pub some_bit : some mailbox_count (λ k. bit_at k x) ≡ not (eqb x 0)
  some_bit = same_answers _ _ (up_to_at 255 (λ x. beq (some mailbox_count (λ k. bit_at k x)) (not (eqb x 0))) tt x (omega arith))

digits_and : (x y : ℕ) → x < 2 → y < 2 → eqb (bit_and x y) 1 ≡ eqb x 1 && eqb y 1
digits_and x y h g = same_answers _ _ (up_to_at 1 (test x) (up_to_at 1 (λ x. up_to 1 (test x)) tt x (omega arith)) y (omega arith))
  where
    test : ℕ → ℕ → Bool
    test x y = beq (eqb (bit_and x y) 1) (eqb x 1 && eqb y 1)

pub and_bit : (k a b : ℕ) → bit_at k (bit_and a b) ≡ bit_at k a && bit_at k b
and_bit k a b =
    ap (λ (n : ℕ). eqb (n % 2) 1) (and_shr a b k)
    ∙ ap (λ (n : ℕ). eqb n 1) (and_mod (a / 2 ^ k) (b / 2 ^ k) 1)
    ∙ digits_and (a / 2 ^ k % 2) (b / 2 ^ k % 2) (omega arith) (omega arith)

-- the mailboxes of several bits emptied
pub without_bits : (x e : ℕ) → x < 256 → e < 256 → bit_and x (255 - e) ≡ status_of (λ k. bit_at k x && not (bit_at k e))
without_bits x e byte h =
    let rest : 255 - e < 256 = omega arith in
    sym (bits_back (bit_and x (255 - e)) (and_lt 8 x (255 - e) byte rest))
    ∙ same_status (λ k. bit_at k (bit_and x (255 - e))) (λ k. bit_at k x && not (bit_at k e))
    (λ k low. and_bit k x (255 - e) ∙ ap (λ (b : Bool). bit_at k x && b) (not_bit e k h low))
