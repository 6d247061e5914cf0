-- What a run hands back, refused or not. Assumes nothing.
use Rattle.std.proofs.Common.{◌≡◌, ℕ, List}
use Rattle.run.specs.declared.Lent.{Lent}
use Rattle.run.specs.declared.refusal.Refusal.{Refusal}
use Rattle.run.specs.Steps.{Fixed}
use Rattle.run.specs.Runs.{run_from, refusal_of, opened, taken, refused, run_of, number_of}

module _ (fixed : Fixed) (l : Lent) (d : List ℕ) (budget : ℕ) where
  -- not refused: the steps' end
  pub hands_taken : refusal_of fixed d l.word budget ≡ 0 → run_of fixed l d budget ≡ taken (run_from fixed budget (opened l) d 0)
  unfolding run_of
  hands_taken h = rw h

  -- refused: everything as handed in
  pub hands_refused : (r : Refusal) → refusal_of fixed d l.word budget ≡ number_of r → run_of fixed l d budget ≡ refused l d (number_of r)
  unfolding run_of number_of
  hands_refused Refusal.Code h = rw h
  hands_refused Refusal.Data h = rw h
  hands_refused Refusal.Constants h = rw h
  hands_refused Refusal.Flags h = rw h
  hands_refused Refusal.Budget h = rw h
