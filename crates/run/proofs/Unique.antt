-- A step and a run come to one answer: the number and the address tell why it ended. Assumes nothing.
use Rattle.std.proofs.Common.{◌≡◌, ◌==◌, refl, sym, ap, ◌∙◌, ℕ, List, cond, Result, Ok, Err, arith}
use Rattle.machine.specs.declared.registers.Machine.{Machine}
use Rattle.effect.specs.declared.stop.Stop.{Stop}
use Rattle.effect.specs.Stops.{number_of, address_of}
use Rattle.run.specs.declared.refusal.Refusal.{Refusal}
use Rattle.run.specs.declared.step.Stopped.{Stopped}
use Rattle.run.specs.declared.End.{End}
use Rattle.run.specs.declared.Ran as Code
use Rattle.run.specs.Steps.{Moved, next, Steps}
use Rattle.run.specs.Runs as Runs
use Rattle.run.specs.Runs.{HandedBack, number_at, address_at, told}

-- why a step stops, by its number and its address
stop_named : ℕ → ℕ → Stop
stop_named n a =
    cond (n == 1) Stop.Home
    (cond (n == 2) Stop.OutsideCode
    (cond (n == 3) Stop.Cut
    (cond (n == 4) Stop.Unknown (cond (n == 5) (Stop.Read (record { address = a })) (cond (n == 6) (Stop.Write (record { address = a })) Stop.Divide)))))

stop_told : (s : Stop) (eip : ℕ) → stop_named (number_of s) (address_of s eip) ≡ s
unfolding stop_named
stop_told Stop.Home eip = refl
stop_told Stop.OutsideCode eip = refl
stop_told Stop.Cut eip = refl
stop_told Stop.Unknown eip = refl
stop_told (Stop.Read o) eip = refl
stop_told (Stop.Write o) eip = refl
stop_told Stop.Divide eip = refl

-- any two permitted outcomes of a step coincide
pub steps_unique : (moved : Moved) (m : Machine) (d : List ℕ) (r r' : Result Machine Stopped) (a a' : List ℕ)
    → Steps moved m d r a → Steps moved m d r' a'
    → (r ≡ r') × (a ≡ a')
steps_unique moved m d (Ok m₁) (Ok m₂) a a' p q = by (sym p ∙ q)
  where
    by : next m₁ a ≡ next m₂ a' → (◌≡◌ {A = Result Machine Stopped} (Ok m₁) (Ok m₂)) × (a ≡ a')
    by e = (cc, cc)
steps_unique moved m d (Ok m₁) (Err s) a a' p q = absurd (let e = sym p ∙ q.0 in let z : ◌≡◌ {A = ℕ} 0 1 = cc in omega arith)
steps_unique moved m d (Err s) (Ok m₁) a a' p q = absurd (let e = sym q ∙ p.0 in let z : ◌≡◌ {A = ℕ} 0 1 = cc in omega arith)
steps_unique moved m d (Err s) (Err t) a a' p q =
    let e = sym p.0 ∙ q.0 in
    let n : number_of s.stop ≡ number_of t.stop = cc in
    let b : address_of s.stop m.eip ≡ address_of t.stop m.eip = cc in
    let same : s.stop ≡ t.stop = sym (stop_told s.stop m.eip) ∙ rw (n, b) (stop_told t.stop m.eip) in
    let left : s.machine ≡ t.machine = p.1 ∙ sym q.1 in
    (rw (same, left) refl, p.2 ∙ sym q.2)

-- what ends a run, by its number and its address
end_named : ℕ → ℕ → End
end_named n a =
    cond (n == 0) End.Budget
    (cond (n == 10) (End.Refused Refusal.Code)
    (cond (n == 11) (End.Refused Refusal.Data)
    (cond (n == 15) (End.Refused Refusal.Constants)
    (cond (n == 12) (End.Refused Refusal.Flags) (cond (n == 13) (End.Refused Refusal.Budget) (End.Stop (stop_named n a)))))))

end_told : (e : End) (eip : ℕ) → end_named (number_at e) (address_at e eip) ≡ e
unfolding number_at address_at Runs.number_of end_named stop_named
end_told End.Budget eip = refl
end_told (End.Stop Stop.Home) eip = refl
end_told (End.Stop Stop.OutsideCode) eip = refl
end_told (End.Stop Stop.Cut) eip = refl
end_told (End.Stop Stop.Unknown) eip = refl
end_told (End.Stop (Stop.Read o)) eip = refl
end_told (End.Stop (Stop.Write o)) eip = refl
end_told (End.Stop Stop.Divide) eip = refl
end_told (End.Refused Refusal.Code) eip = refl
end_told (End.Refused Refusal.Data) eip = refl
end_told (End.Refused Refusal.Constants) eip = refl
end_told (End.Refused Refusal.Flags) eip = refl
end_told (End.Refused Refusal.Budget) eip = refl

-- any two permitted outcomes of a run coincide
pub runs_unique : (o : HandedBack) (r r' : Code.Ran) (a a' : List ℕ) → Runs.Runs o r a → Runs.Runs o r' a' → (r ≡ r') × (a ≡ a')
unfolding told
runs_unique o r r' a a' p q =
    let e = p.is ∙ sym q.is in
    let m : r.machine ≡ r'.machine = ap (λ (t : Runs.Ran). t.machine) e in
    let k : r.steps ≡ r'.steps = ap (λ (t : Runs.Ran). t.steps) e in
    let n : number_at r.end ≡ number_at r'.end = ap (λ (t : Runs.Ran). t.number) e in
    let b : address_at r.end r.machine.eip ≡ address_at r'.end r'.machine.eip = ap (λ (t : Runs.Ran). t.address) e in
    let same : r.end ≡ r'.end = sym (end_told r.end r.machine.eip) ∙ rw (n, b) (end_told r'.end r'.machine.eip) in
    (rw (m, k, same) refl, p.left ∙ sym q.left)
