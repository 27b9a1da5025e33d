-- Lists of calls in which something happens, and a receiver that no list comes to. Definitions only.
use Rattle.std.specs.Prelude.{List, [], ◌∷◌, ◌++◌, map, ℕ, replicate}
use Rattle.receiver.specs.Registers.{overrun_register, mask_register, frame_size}
use Rattle.receiver.specs.Calls.{Call, read, write, arrive, drain, line}

-- frame n: n in every byte
abbrev pub frame : ℕ → List ℕ
frame n = replicate frame_size n

abbrev pub arrivals : List ℕ → List Call
arrivals = map (λ n. arrive (frame n))

abbrev pub drains : ℕ → List Call
drains n = replicate n (drain (frame 0))

-- All eight are filled, three drained, three filled again round the ring, two drained; between them a mask, reads, the line, a write to
-- overrun and refused calls.
abbrev pub round : List Call
round =
    (write mask_register 255 ∷ arrivals (1 ∷ 2 ∷ 3 ∷ 4 ∷ []))
    ++ (read 0 (0 ∷ []) ∷ read 92 (0 ∷ []) ∷ arrivals (5 ∷ 6 ∷ 7 ∷ 8 ∷ []))
    ++ (line (0 ∷ []) ∷ arrive [] ∷ drains 3)
    ++ (write overrun_register 7 ∷ arrivals (9 ∷ 10 ∷ 11 ∷ []))
    ++ (drain [] ∷ drains 2)

-- The ninth is lost; once one is drained, the tenth is kept.
abbrev pub overfull : List Call
overfull = arrivals (1 ∷ 2 ∷ 3 ∷ 4 ∷ 5 ∷ 6 ∷ 7 ∷ 8 ∷ 9 ∷ []) ++ drains 1 ++ arrivals (10 ∷ [])

-- Handed in: mailboxes 1 and 2 full, overrun 7, bit 2 in the mask, something in acknowledge, and a turn that counts as 0.
abbrev pub handed_in : List ℕ
handed_in =
    (6 ∷ 7 ∷ 4 ∷ 9 ∷ [])
    ++ frame 20 ++ frame 21 ++ frame 22 ++ frame 23 ++ frame 24 ++ frame 25 ++ frame 26 ++ frame 27
    ++ (200 ∷ [])

-- one more arrives, and one is drained
abbrev pub one_more : List Call
one_more = arrivals (30 ∷ []) ++ drains 1
