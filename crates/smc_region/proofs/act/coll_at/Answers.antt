use Rattle.std.proofs.Common.{ℕ, ◌-◌, ◌<◌, ◌≤◌, Some, refl, ap, subst, arith}
use Rattle.smc_shape.specs.Places.{at}
use Rattle.smc_shape.specs.declared.place.Place.TheVariants as place
use Rattle.smc_region.proofs.ActLaws.{one-coll, past}
use Rattle.smc_region.proofs.act.coll_at.Goals as goal
use Rattle.smc_region.proofs.act.coll_at.Goals.{then-entries-gt0+else-first-word, else-first-word-via-then-first-word+else-word-first, else-first-word-via-else-first-word, else-entries-gt0}

pub returns-then-word-first-clause-here : goal.returns-then-word-first-clause-here
returns-then-word-first-clause-here c other entry in_range is =
    let shape = c.args.shape.now in
    let word = c.args.word in
    let first = c.entry_at-first.ensures in
    let low = subst (λ (n : ℕ). n ≤ word) first c.if-first-word.true in
    let near = subst (λ (n : ℕ). word - n < c.entries-entries.result) first c.if-word-first.true in
    let high = subst (λ (n : ℕ). word - at shape (place.Entry c.loop-c.c 0) < n) c.entries-entries.ensures near in
    ap (λ (k : ℕ). Some k) (one-coll shape word c.loop-c.c other entry c.passes.ensures.valid low high in_range is)

pub loop-c-preserved : goal.loop-c-preserved
loop-c-preserved c =
    let shape = c.args.shape.now in
    let word = c.args.word in
    let k = c.loop-c.c in
    let entries = c.entries-entries.result in
    elim c.if-entries-gt0.branch [
      | then-entries-gt0+else-first-word w ↦
          let first = w.entry_at-first.result in
          elim w.else-first-word.branch [
            | else-first-word-via-then-first-word+else-word-first v ↦
                past shape word first entries k w.entry_at-first.ensures c.entries-entries.ensures (λ entry lt e. let low = v.if-first-word.true in let far = v.if-word-first.false in omega (arith, lt, e, low, far)) c.loop-c.invariant
            | else-first-word-via-else-first-word v ↦
                past shape word first entries k w.entry_at-first.ensures c.entries-entries.ensures (λ entry lt e. let high = v.if-first-word.false in omega (arith, lt, e, high)) c.loop-c.invariant
          ]
      | else-entries-gt0 w ↦
          past shape word (at shape (place.Entry k 0)) entries k refl c.entries-entries.ensures (λ entry lt e. let none = w.if-entries-gt0.false in omega (arith, lt, none)) c.loop-c.invariant
    ]
