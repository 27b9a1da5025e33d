-- `bench::Bench::answer_piece` meets its contract. Each turn of the loop reads on in the piece. Assumes nothing.
use lib.ListN.{length}
use Rattle.bench.proofs.Bench.answer_piece.Given as goal

abbrev pub decreases-loop-rest : goal.decreases-loop-rest
decreases-loop-rest l = length l.rest
