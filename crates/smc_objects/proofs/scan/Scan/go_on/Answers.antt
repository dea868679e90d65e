use Rattle.std.proofs.Common.{rules, ◌≡◌, ◌+◌, ℕ, Bool, true, None, refl, sym, subst, arith}
use Rattle.std.proofs.lemmas.Grind.{common_steps}
use Rattle.smc_core.specs.declared.local.Local.{Local}
use Rattle.smc_core.specs.Scan.{passed}
use Rattle.smc_objects.specs.Scans.{GoesOn}
use Rattle.smc_objects.specs.Scanning.{number_at, passing}
use Rattle.smc_objects.proofs.CourseLaws.{IsCourse, course-passed, course-ended}
use Rattle.smc_objects.proofs.ScanLaws.{ends-now, ended-here, ended-now, passed-none}
use Rattle.smc_objects.proofs.scan.Scan.go_on.Goals as goal

pub returns-then-first-slots-clause-scan : goal.returns-then-first-slots-clause-scan
returns-then-first-slots-clause-scan c =
    let s = c.args.s.now in
    let o = c.args.self.now in
    record {
      coll = search rules;
      within = grind (arith, common_steps);
      here = subst (λ (l : Local). IsCourse l.stand.scans o.scan o.coll o.place true) (sym c.end_first.ensures.told) (course-ended s.local.stand.scans o.scan o.coll o.place o.ended c.requires.scan.here);
    }

pub returns-then-first-slots-clause-answer : goal.returns-then-first-slots-clause-answer
returns-then-first-slots-clause-answer c =
    let s = c.args.s.now in
    let o = c.args.self.now in
    let n : ℕ = number_at s.local o.scan in
    let none = passed-none s.local.stand.scans n (record { number = n; coll = o.coll; place = o.place; ended = o.ended }) c.requires.scan.here in
    subst (λ (b : Bool). GoesOn None b s.shape s.local c.end_first.new.s.local o (record { scan = o.scan; coll = o.coll; place = o.place; ended = true })) (sym c.if-self.false)
    (record { all = search rules; ended = refl; told = ended-here s.local c.end_first.new.s.local n o.place none c.end_first.ensures.told })

pub returns-in-Some-clause-scan : goal.returns-in-Some-clause-scan
returns-in-Some-clause-scan c =
    let s = c.args.s.now in
    let o = c.args.self.now in
    let h = c.in-Some.held in
    record {
      coll = search rules;
      within = grind (arith, common_steps);
      here = subst (λ (l : Local). IsCourse l.stand.scans o.scan o.coll (c.place.result + 1) o.ended) (sym c.in-Some.ensures.met.2)
          (subst (λ (k : ℕ). IsCourse (passed s.local.stand.scans (number_at s.local o.scan) (h.place + 1)) o.scan o.coll (k + 1) o.ended) (sym c.place.ensures)
          (course-passed s.local.stand.scans o.scan o.coll o.place (h.place + 1) o.ended c.requires.scan.here));
    }

pub end-requires : goal.end-requires
end-requires c =
    let s = c.args.s.now in
    let o = c.args.self.now in
    let t = c.walk.new.s in
    record { phase = ends-now s.shape s.local (number_at s.local o.scan) o.coll c.slots-slots.result t.local.steps o.scan refl t.local (search rules) (search rules) }

pub returns-clause-scan : goal.returns-clause-scan
returns-clause-scan c =
    let s = c.args.s.now in
    let o = c.args.self.now in
    let t = c.walk.new.s in
    let slots = c.slots-slots.result in
    let now : t.local ≡ passing s.shape s.local (number_at s.local o.scan) o.coll slots t.local.steps = search rules in
    let passed_all : IsCourse t.local.stand.scans o.scan o.coll slots o.ended = subst (λ (l : Local). IsCourse l.stand.scans o.scan o.coll slots o.ended) (sym now)
    (course-passed s.local.stand.scans o.scan o.coll o.place slots o.ended c.requires.scan.here) in
    record {
      coll = search rules;
      within = grind (arith, common_steps);
      here = subst (λ (l : Local). IsCourse l.stand.scans o.scan o.coll slots true) (sym c.end.ensures.told) (course-ended t.local.stand.scans o.scan o.coll slots o.ended passed_all);
    }

pub returns-clause-answer : goal.returns-clause-answer
returns-clause-answer c =
    let s = c.args.s.now in
    let o = c.args.self.now in
    let t = c.walk.new.s in
    let slots = c.slots-slots.result in
    let now : t.local ≡ passing s.shape s.local (number_at s.local o.scan) o.coll slots t.local.steps = search rules in
    subst (λ (b : Bool). GoesOn None b s.shape s.local c.end.new.s.local o (record { scan = o.scan; coll = o.coll; place = slots; ended = true })) (sym c.if-self.false)
    (record {
      all = search rules;
      ended = refl;
      told = ended-now s.shape s.local (number_at s.local o.scan) o.coll slots t.local.steps o.scan refl t.local c.end.new.s.local c.end.new.s.local.steps now (search rules) c.end.ensures.told;
    })
