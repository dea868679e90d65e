-- What the table asks of a step by numbers, and what the step leaves of the cursors.
use Rattle.std.proofs.Common.{◌≡◌, ◌≢◌, ℕ, zero, suc, ◌+◌, ◌-◌, ◌<◌, ◌≤◌, ◌==◌, true, false, Option, Some, None, List, [], ◌∷◌, length, refl, sym, ap, ◌∙◌, subst, arith}
use Rattle.std.specs.Prelude.{slice_index_or}
use prog.Atomic.{either}
use Rattle.atomic_table.specs.Table.{Me, Allows}
use Rattle.smc_shape.specs.Layout.{Collection, Layout, IsShape, entries_of, no_coll}
use Rattle.smc_shape.specs.Places.{InRange, at}
use Rattle.smc_shape.specs.declared.place.Place.{Place}
use Rattle.smc_shape.specs.declared.place.Place.TheVariants as place
use Rattle.smc_shape.proofs.PlaceLaws.{at-apart}
use Rattle.smc_core.specs.declared.call.Choice.{Choice}
use Rattle.smc_core.specs.declared.local.Local.{Local}
use Rattle.smc_core.specs.declared.local.Opening.{Opening}
use Rattle.smc_core.specs.declared.kind.Deed.{Deed}
use Rattle.smc_core.specs.declared.kind.Deed.TheVariants as deed
use Rattle.smc_core.specs.declared.kind.Kind.{Kind}
use Rattle.smc_core.specs.declared.op.Offer.{Offer}
use Rattle.smc_core.specs.declared.op.Op.{Op}
use Rattle.smc_core.specs.declared.op.Op.TheVariants.{Load, Store, Exchange, MarkGone}
use Rattle.smc_core.specs.declared.word.State.TheVariants as state
use Rattle.smc_core.specs.declared.word.Word.TheVariants as word
use Rattle.smc_core.specs.Machine.{local_offer}
use Rattle.smc_core.specs.Row.{OpFits, place_of, put, unpacked}
use Rattle.smc_rules.proofs.CarryLaws.{by_pass}
use Rattle.smc_rules.proofs.ReadBack.{unpacked-packed}
use Rattle.smc_region.specs.declared.act.Act.{Act}
use Rattle.smc_region.specs.declared.law.View.{View}
use Rattle.smc_region.specs.Acts.{IsOfKind, act_by, act_in, deed_by, is_live, op_in}
use Rattle.smc_region.specs.Rule.{IsOwn}
use Rattle.smc_region.specs.Sections.{cursors_by}
use Rattle.smc_region.specs.Reached.{From, Showed, answered_number}
use Rattle.smc_region.specs.Views.{IsAlone, offer_of, op_of, sole_offer, sole_op, view_op}
use Rattle.smc_region.proofs.Allowed.{allowed, stores, exchanges}
use Rattle.smc_region.proofs.Keeps.{Rule, Then, seat_fits}
use Rattle.smc_region.proofs.KindLaws.{does-kind}

-- the index of an act is that of its operation's place
pub word-at : (shape : Layout) (kind : Kind) (act : Act) (op : Op) → act ≡ act_by shape kind op → act.word ≡ at shape (place_of op)
word-at shape kind act (Load there) is = ap (λ (a : Act). a.word) is
word-at shape kind act (Store there w) is = ap (λ (a : Act). a.word) is
word-at shape kind act (Exchange there expect w) is = ap (λ (a : Act). a.word) is
word-at shape kind act (MarkGone coll entry) is = ap (λ (a : Act). a.word) is

module _ (own_shape shape : Layout) (opening : Opening) (slots seat : ℕ) (me : Me (Unit {0}) View) (named choice : Choice) (kind : Kind) (act : Act)
    (same : named ≡ choice) (shaped : me.0.shape ≡ shape) (own : IsOwn choice) (alone : IsAlone me) where
  -- a load
  pub loads_by : (op : Op) → act ≡ act_by shape kind op → deed_by op ≡ deed.Load → view_op me.0 choice ≡ Some op → Allows (Rule own_shape opening) slots seat me act.word (λ n. n) (Then named op me)
  loads_by (Load there) is does offers = allowed own_shape shape opening slots seat me named choice (Load there) (Load there) act.word same refl shaped (word-at shape kind act (Load there) is) own alone offers
  loads_by (Store there w) is does offers = absurd (cc)
  loads_by (Exchange there expect w) is does offers = absurd (cc)
  loads_by (MarkGone coll entry) is does offers = absurd (cc)

  -- a store
  pub stores_by : (op : Op) → act ≡ act_by shape kind op → deed_by op ≡ deed.Store → view_op me.0 choice ≡ Some op → Allows (Rule own_shape opening) slots seat me act.word (λ _. act.put) (λ _. Then named op me act.put)
  stores_by (Store there w) is does offers =
      stores own_shape shape opening slots seat me named choice (Store there w) there w act.word act.put same refl shaped (word-at shape kind act (Store there w) is) (ap (λ (a : Act). a.put) is) own alone offers
  stores_by (Load there) is does offers = absurd (cc)
  stores_by (Exchange there expect w) is does offers = absurd (cc)
  stores_by (MarkGone coll entry) is does offers = absurd (cc)

  -- an exchange
  pub exchanges_by : (op : Op) → act ≡ act_by shape kind op → deed_by op ≡ deed.Exchange → view_op me.0 choice ≡ Some op
      → Allows (Rule own_shape opening) slots seat me act.word (λ k. either (k == act.expect) act.put k) (Then named op me)
  exchanges_by (Exchange there expect w) is does offers =
      exchanges own_shape shape opening slots seat me named choice (Exchange there expect w) there expect w act.word act.expect act.put same refl shaped (word-at shape kind act (Exchange there expect w) is)
      (ap (λ (a : Act). a.expect) is) (ap (λ (a : Act). a.put) is) own alone offers
  exchanges_by (Load there) is does offers = absurd (cc)
  exchanges_by (Store there w) is does offers = absurd (cc)
  exchanges_by (MarkGone coll entry) is does offers = absurd (cc)

  -- a mark
  pub marks_by : (op : Op) → act ≡ act_by shape kind op → deed_by op ≡ deed.Mark → view_op me.0 choice ≡ Some op → Allows (Rule own_shape opening) slots seat me act.word (put (MarkGone 0 0)) (Then named op me)
  marks_by (MarkGone coll entry) is does offers =
      allowed own_shape shape opening slots seat me named choice (MarkGone coll entry) (MarkGone coll entry) act.word same refl shaped (word-at shape kind act (MarkGone coll entry) is) own alone offers
  marks_by (Load there) is does offers = absurd (cc)
  marks_by (Store there w) is does offers = absurd (cc)
  marks_by (Exchange there expect w) is does offers = absurd (cc)

-- what is no store answers what it found
pub answers_found : (view : View) (op : Op) (d : Deed) (number : ℕ) → deed_by op ≡ d → d ≢ deed.Store → Showed view op (answered_number op number) → Showed view op number
answers_found view (Load there) d number does apart s = s
answers_found view (Store there w) d number does apart s = absurd (apart (sym does))
answers_found view (Exchange there expect w) d number does apart s = s
answers_found view (MarkGone coll entry) d number does apart s = s

kind-at : (shape : Layout) (kind : Kind) (op : Op) → (act_by shape kind op).kind ≡ kind
kind-at shape kind (Load there) = refl
kind-at shape kind (Store there w) = refl
kind-at shape kind (Exchange there expect w) = refl
kind-at shape kind (MarkGone coll entry) = refl

-- an act that is offered is its operation, by its kind
pub act_is : (shape : Layout) (act : Act) (offered : Option Offer) → act_in shape offered ≡ Some act → act ≡ act_by shape act.kind (op_in offered)
act_is shape act None e = absurd (cc)
act_is shape act (Some o) e =
    let same : act_by shape o.kind o.op ≡ act = cc in
    sym same ∙ ap (λ (k : Kind). act_by shape k o.op) (sym (kind-at shape o.kind o.op) ∙ ap (λ (a : Act). a.kind) same)

pub offers_op : (shape : Layout) (act : Act) (offered : Option Offer) → act_in shape offered ≡ Some act → op_of offered ≡ Some (op_in offered)
offers_op shape act None e = absurd (cc)
offers_op shape act (Some o) e = refl

-- an act that is offered is of its operation's kind
pub kind_of : (shape : Layout) (pass : ℕ) (l : Local) (choice : Choice) (act : Act) (offered : Option Offer) → local_offer shape pass l choice ≡ offered → act_in shape offered ≡ Some act → IsOfKind act.kind (op_in offered)
kind_of shape pass l choice act None is e = absurd (cc)
kind_of shape pass l choice act (Some o) is e =
    let same : act_by shape o.kind o.op ≡ act = cc in
    subst (λ (k : Kind). IsOfKind k o.op) (sym (kind-at shape o.kind o.op) ∙ ap (λ (a : Act). a.kind) same) (does-kind shape pass l.stand l.stand.section l.stand.phase choice o is)

pub act_kind : (shape : Layout) (xs : List (ℕ × Local)) (choice : Choice) (act : Act) → act_in shape (offer_of shape xs choice) ≡ Some act → IsOfKind act.kind (op_in (offer_of shape xs choice))
act_kind shape [] choice act e = absurd (cc)
act_kind shape (x ∷ y ∷ ys) choice act e = absurd (cc)
act_kind shape (x ∷ []) choice act e = kind_of shape x.0 x.1 choice act (local_offer shape x.0 x.1 choice) refl e

-- and its operation is the one that is offered
op_offered : (shape : Layout) (xs : List (ℕ × Local)) (choice : Choice) (act : Act) → act_in shape (offer_of shape xs choice) ≡ Some act → sole_op shape xs choice ≡ Some (op_in (offer_of shape xs choice))
op_offered shape [] choice act e = absurd (cc)
op_offered shape (x ∷ y ∷ ys) choice act e = absurd (cc)
op_offered shape (x ∷ []) choice act e = offers_op shape act (local_offer shape x.0 x.1 choice) e

-- and fits the row
pub act_fits : (view : View) (choice : Choice) (act : Act) → From view → act_in view.shape (sole_offer view choice) ≡ Some act → OpFits view.shape (op_in (sole_offer view choice))
act_fits view choice act from e = seat_fits view choice (op_in (sole_offer view choice)) from (op_offered view.shape view.locals choice act e)

-- a store of an object that lives, at some entry of the region
pub record Lives (shape : Layout) (act : Act) (op : Op) : Type 0 where
  pub coll : ℕ
  pub entry : ℕ
  pub incarnation : ℕ
  pub slot : ℕ
  pub op_is : op ≡ Store (place.Entry coll entry) (word.Entry (state.Present incarnation slot))
  pub in_range : InRange shape (place.Entry coll entry)
  pub word_is : act.word ≡ at shape (place.Entry coll entry)
  pub reads : (other : ℕ) → unpacked (place.Entry other 0) act.put ≡ word.Entry (state.Present incarnation slot)

pub lives : (shape : Layout) (kind : Kind) (act : Act) (op : Op) → act ≡ act_by shape kind op → OpFits shape op → true ≡ is_live op → Lives shape act op
lives shape kind act (Store (place.Entry coll entry) (word.Entry (state.Present incarnation slot))) is fits live = record {
  coll = coll;
  entry = entry;
  incarnation = incarnation;
  slot = slot;
  op_is = refl;
  in_range = fits.0;
  word_is = ap (λ (a : Act). a.word) is;
  reads = λ other. ap (λ (a : Act). unpacked (place.Entry other 0) a.put) is ∙ unpacked-packed (place.Entry other 0) (word.Entry (state.Present incarnation slot)) fits.1;
}
lives shape kind act _ is fits live = absurd (cc)

-- no other operation moves a cursor
pub moves-none : (shape : Layout) (cursors : List ℕ) (op : Op) → false ≡ is_live op → cursors ≡ cursors_by shape cursors op
moves-none shape cursors (Store (place.Entry coll entry) (word.Entry (state.Present incarnation slot))) live = absurd (cc)
moves-none shape cursors _ live = refl

-- an entry at this index is one of the collection of which it is in range
pub one-coll : (shape : Layout) (index c coll entry : ℕ) → IsShape shape → at shape (place.Entry c 0) ≤ index → index - at shape (place.Entry c 0) < entries_of shape c
    → InRange shape (place.Entry coll entry) → index ≡ at shape (place.Entry coll entry) → c ≡ coll
unfolding at
one-coll shape index c coll entry valid low high in_range is =
    let here : at shape (place.Entry c (index - at shape (place.Entry c 0))) ≡ at shape (place.Entry coll entry) = omega (arith, low, is) in
    ap (λ (p : Place). coll_in p) (at-apart shape (place.Entry c (index - at shape (place.Entry c 0))) (place.Entry coll entry) valid high in_range here)
  where
    coll_in : Place → ℕ
    coll_in (place.Entry c e) = c
    coll_in _ = 0

-- and above the index of its first
pub entry-above : (shape : Layout) (coll entry : ℕ) → at shape (place.Entry coll entry) ≡ at shape (place.Entry coll 0) + entry
unfolding at
entry-above shape coll entry = omega arith

-- a collection that has an entry is one of the region
pub entry_within : (colls : List Collection) (c entry : ℕ) → entry < (slice_index_or colls c no_coll).entries → c < length colls
entry_within [] c entry lt = absurd (omega arith)
entry_within (first ∷ later) zero entry lt = omega arith
entry_within (first ∷ later) (suc c) entry lt = let h = entry_within later c entry lt in omega arith

-- an index that is not among the entries of the next collection either
pub past : (shape : Layout) (word first entries c : ℕ) → first ≡ at shape (place.Entry c 0) → entries ≡ entries_of shape c → ((entry : ℕ) → entry < entries → word ≢ first + entry)
    → ((coll entry : ℕ) → coll < c → InRange shape (place.Entry coll entry) → word ≢ at shape (place.Entry coll entry))
    → (coll entry : ℕ) → coll < c + 1 → InRange shape (place.Entry coll entry) → word ≢ at shape (place.Entry coll entry)
past shape word first entries c is_first is_entries apart before coll entry lt in_range is = by_pass coll c
    (λ e. apart entry (subst (λ (n : ℕ). entry < n) (sym is_entries) (subst (λ (k : ℕ). entry < entries_of shape k) e in_range))
    (is ∙ (ap (λ (k : ℕ). at shape (place.Entry k entry)) e ∙ (entry-above shape c entry ∙ ap (λ (n : ℕ). n + entry) (sym is_first)))))
    (λ ne. before coll entry (omega (arith, lt, ne)) in_range is)
