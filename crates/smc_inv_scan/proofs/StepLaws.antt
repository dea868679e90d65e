-- Each step keeps what the scans agree on.
use Rattle.smc_shape.specs.Layout.{Layout}
use Rattle.smc_rules.specs.State.{State}
use Rattle.smc_inv_epoch.specs.Rounds.{Rounds}
use Rattle.smc_inv_range.specs.Calls.{Ranges}
use Rattle.smc_agreement.specs.Agreement.{Agreement}
use Rattle.smc_agreement.proofs.EachKind.{each_step}
use Rattle.smc_agreement.proofs.Whole.{Shut, shut}
use Rattle.smc_inv_scan.specs.Scans.{ScansAgree}
use Rattle.smc_inv_scan.specs.Laws.{EventsFitMarks, MarksAreKept, MarksBegin, ScansAreKept, TargetsArePassed}
use Rattle.smc_inv_scan.proofs.EachMarks.{marks-each}
use Rattle.smc_inv_scan.proofs.EachFits.{fits-each}
use Rattle.smc_inv_scan.proofs.EachStep.{each_offered}
use Rattle.smc_inv_scan.proofs.MarkSteps.{Known, KeepsMarks, EventFits}
use Rattle.smc_inv_scan.proofs.EachScans.{scans-each}
use Rattle.smc_inv_scan.proofs.Targets.{passed_target}

all_shut : (shape : Layout) (s : State) → Ranges shape s → Rounds shape s → Agreement shape s → Shut shape s
all_shut shape s ranges rounds agrees = shut (record { ranges = ranges; rounds = rounds; agrees = agrees })

pub scans_kept : ScansAreKept
scans_kept shape s pass choice offered told in_n ranges rounds agrees scans offers =
    each_step ScansAgree ScansAgree scans-each shape s (all_shut shape s ranges rounds agrees) scans pass in_n choice offered told offers

pub targets_passed : TargetsArePassed
targets_passed shape s ranges rounds agrees scans = passed_target shape s (all_shut shape s ranges rounds agrees) scans

pub marks_kept : MarksAreKept
marks_kept shape s marks pass choice offered told in_n ranges rounds agrees scans here known offers =
    each_offered (Known marks) (KeepsMarks marks) (marks-each marks) shape s (all_shut shape s ranges rounds agrees) (record { scans = scans; marks = known; here = here }) pass in_n choice offered told offers

pub marks_begun : MarksBegin
marks_begun shape memory world = record {
  m_began = λ i k c a e b li is bg. absurd (cc);
  m_given = λ i k c a e b li is vs. absurd (cc);
  m_coll = λ i k c a e b li is vs. absurd (cc);
  m_met = λ i k c a e t b li is of bg pr lt. absurd (cc);
  m_once = λ i k c a e t b li is vs pr. absurd (cc);
}

pub events_fit : EventsFitMarks
events_fit shape s marks pass choice offered told in_n ranges rounds agrees scans here known offers =
    each_offered (Known marks) (EventFits marks) (fits-each marks) shape s (all_shut shape s ranges rounds agrees) (record { scans = scans; marks = known; here = here }) pass in_n choice offered told offers
