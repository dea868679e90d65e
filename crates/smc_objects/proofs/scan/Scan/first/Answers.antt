use Rattle.std.proofs.Common.{rules, ◌≡◌, ℕ, List, false, [], ◌∷◌, ◌++◌, length, sym, subst, arith}
use Rattle.std.proofs.lemmas.Grind.{common_steps}
use Rattle.smc_core.specs.declared.local.Scan.{Scan}
use Rattle.smc_core.specs.Scan.{new_scan, scan_number}
use Rattle.smc_objects.proofs.CourseLaws.{IsCourse, course-begun, next_is_new}
use Rattle.smc_objects.proofs.scan.Scan.first.Goals as goal

pub returns-clause-scan : goal.returns-clause-scan
returns-clause-scan c =
    let s = c.args.s.now in
    let new : Scan = new_scan (scan_number s.number s.local.stand.begun) c.args.c in
    let course : IsCourse (s.local.stand.scans ++ new ∷ []) (length s.local.stand.scans) c.args.c 0 false =
    course-begun s.local.stand.scans new (next_is_new s.shape s.number s.local c.take.ensures.saw.from) in
    let at : c.take.new.self.local.stand.scans ≡ s.local.stand.scans ++ new ∷ [] = search rules in
    record {
      coll = search rules;
      within = grind (arith, common_steps);
      here = subst (λ (k : ℕ). IsCourse c.take.new.self.local.stand.scans k c.args.c 0 false) (sym c.scans-scan.ensures)
          (subst (λ (x : List Scan). IsCourse x (length s.local.stand.scans) c.args.c 0 false) (sym at) course);
    }
