-- A section after a step of it is a section.
use Rattle.std.proofs.Common.{◌≡◌, ℕ, zero, suc, ◌<◌, Bool, List, [], ◌∷◌, length, arith, refl, sym, ap, ◌∙◌, subst}
use Rattle.std.specs.Prelude.{Some, slice_index_or}
use Rattle.atomic_table.specs.Seated.{TableId}
use Rattle.atomic_table.specs.Table.{Me}
use Rattle.smc_shape.specs.Layout.{Collection, Layout, no_coll}
use Rattle.smc_core.specs.declared.call.Choice.{Choice}
use Rattle.smc_core.specs.declared.local.Local.{Local}
use Rattle.smc_core.specs.declared.op.Offer.{Offer}
use Rattle.smc_core.specs.declared.op.Op.{Op}
use Rattle.smc_core.specs.declared.section.Section.{Section}
use Rattle.smc_core.specs.declared.section.Section.TheVariants.{Inside}
use Rattle.smc_core.specs.declared.word.Word.{Word}
use Rattle.smc_core.specs.Local.{after, section_after}
use Rattle.smc_core.specs.Machine.{local_offer}
use Rattle.smc_core.specs.Offer.{offer}
use Rattle.smc_core.specs.Row.{OpFits}
use Rattle.smc_region.specs.declared.chosen.Chosen.{Chosen}
use Rattle.smc_region.specs.declared.law.View.{View}
use Rattle.smc_region.specs.Callers.{Caller, IsSeatOf, caller_of}
use Rattle.smc_region.specs.Choices.{choice_of, seat_choice}
use Rattle.smc_region.specs.Sections.{IsWithin, scans_with, cursors_by}
use Rattle.smc_region.specs.Reached.{From}
use Rattle.smc_region.specs.Views.{one, op_of, sole, view_after, view_op}
use Rattle.smc_region.proofs.Keeps.{op_of-some, seat_fits}
use Rattle.smc_region.proofs.SectionLaws.{inside-stays, length-scans, cursors-by}

-- what a section keeps at run time agrees with what its pass knows
pub record Agrees (told : Layout) (number epoch : ℕ) (calm : Bool) (begun : ℕ) (kept : List ℕ) (me : Me (Unit {0}) View) : Type 0 where
  pub seat : IsSeatOf number me
  pub shape : me.0.shape ≡ told
  pub section : (sole me.0.shape me.0.locals).stand.section ≡ Inside epoch calm
  pub scans : length (sole me.0.shape me.0.locals).stand.scans ≡ begun
  pub cursors : kept ≡ (sole me.0.shape me.0.locals).cursors

-- it does so after a step
pub agrees-after : (told : Layout) (number : ℕ) (table : TableId) (me me' : Me (Unit {0}) View) (v : Caller) (chosen : Chosen) (op : Op) (w : Word) (epoch : ℕ) (calm : Bool) (scans : ℕ) (cursors cursors' : List ℕ)
    → caller_of number table me ≡ v → Agrees told number epoch calm scans cursors me
    → IsWithin (choice_of v.local.stand.scans chosen) → op_of (local_offer v.shape v.number v.local (choice_of v.local.stand.scans chosen)) ≡ Some op
    → me' ≡ (view_after (seat_choice me.0 chosen) 0 w me.0, me.1) → cursors' ≡ cursors_by me.0.shape cursors op
    → Agrees told number epoch calm (scans_with scans chosen) cursors' me'
agrees-after told number table me me' v chosen op w epoch calm scans cursors cursors' is old within offered led moved =
    let shape : Layout = me.0.shape in
    let l : Local = sole me.0.shape me.0.locals in
    let choice : Choice = seat_choice me.0 chosen in
    let l' : Local = after shape number l choice 0 w in
    let stays : IsWithin choice = subst (λ (x : Caller). IsWithin (choice_of x.local.stand.scans chosen)) (sym is) within in
    let offers : op_of (local_offer shape number l choice) ≡ Some op = subst (λ (x : Caller). op_of (local_offer x.shape x.number x.local (choice_of x.local.stand.scans chosen)) ≡ Some op) (sym is) offered in
    let o = op_of-some (local_offer shape number l choice) op offers in
    let at : Offer = record { kind = o.0; op = op } in
    let inside = inside-stays shape number l.stand epoch calm l.stand.phase choice at
    (subst (λ (s : Section). offer shape number l.stand s l.stand.phase choice ≡ Some at) old.section o.1) stays in
    let then_is : me' ≡ (one shape number l', []) = led ∙ (λ i. (view_after choice 0 w (old.seat.is i).0, (old.seat.is i).1)) in
    subst (λ (m : Me (Unit {0}) View). Agrees told number epoch calm (scans_with scans chosen) cursors' m) (sym then_is) record {
      seat = record { is = refl; below = old.seat.below };
      shape = old.shape;
      section = ap (λ (s : Section). section_after s l.stand.phase choice w) old.section ∙ inside.1 w;
      scans = length-scans shape number l.stand l.stand.section l.stand.phase chosen w stays ∙ ap (λ (n : ℕ). scans_with n chosen) old.scans;
      cursors = moved ∙ (ap (λ (c : List ℕ). cursors_by shape c op) old.cursors ∙ cursors-by shape number l.stand l.cursors l.stand.section l.stand.phase choice at o.1);
    }

-- what the pass of a seat offers fits the row
pub caller-fits : (number : ℕ) (table : TableId) (me : Me (Unit {0}) View) (v : Caller) (choice : Choice) (op : Op)
    → caller_of number table me ≡ v → IsSeatOf number me → From me.0 → op_of (local_offer v.shape v.number v.local choice) ≡ Some op → OpFits me.0.shape op
caller-fits number table me v choice op is seat from offered =
    let l : Local = sole me.0.shape me.0.locals in
    let offers : op_of (local_offer me.0.shape number l choice) ≡ Some op = subst (λ (x : Caller). op_of (local_offer x.shape x.number x.local choice) ≡ Some op) (sym is) offered in
    seat_fits me.0 choice op from (ap (λ (m : Me (Unit {0}) View). view_op m.0 choice) seat.is ∙ offers)

-- a collection that has a slot is one of the region
pub coll_within : (colls : List Collection) (c slot : ℕ) → slot < (slice_index_or colls c no_coll).slots → c < length colls
coll_within [] c slot lt = absurd (omega arith)
coll_within (first ∷ later) zero slot lt = omega arith
coll_within (first ∷ later) (suc c) slot lt = let h = coll_within later c slot lt in omega arith
