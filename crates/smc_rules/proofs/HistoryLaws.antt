-- The state behind a machine is one, and a rule that each step keeps holds of it.
use mathlib.Core.Path.{fun_ext}
use Rattle.std.proofs.Common.{◌≡◌, ℕ, zero, suc, ◌<◌, Bool, true, false, Option, Some, None, List, [], ◌∷◌, ◌++◌, refl, sym, ap, ◌∙◌, subst, arith}
use Rattle.std.specs.Prelude.{length, option_and_then, ◌≤◌, replicate, slice_get, slice_set, slice_index, if◌then◌else◌}
use Rattle.std.specs.Option.{option_map_or}
use Rattle.std.proofs.lemmas.List.{length-replicate}
use Rattle.std.proofs.lemmas.Option.{slice_get_within}
use Rattle.smc_shape.specs.Layout.{Layout, IsShape}
use Rattle.smc_shape.specs.Places.{InRange, at}
use Rattle.smc_shape.specs.declared.place.Place.{Place}
use Rattle.smc_shape.specs.declared.place.Place.TheVariants as place
use Rattle.smc_model.specs.declared.event.Event.{Event}
use Rattle.smc_model.specs.Order.{events_of}
use Rattle.smc_model.specs.World.{World, empty_world, word_of, world_through}
use Rattle.smc_core.specs.declared.call.Choice.{Choice}
use Rattle.smc_core.specs.declared.local.Local.{Local}
use Rattle.smc_core.specs.declared.local.Opening.{Opening}
use Rattle.smc_core.specs.declared.local.Stand.{Stand}
use Rattle.smc_core.specs.declared.op.Op.{Op}
use Rattle.smc_core.specs.declared.op.Op.TheVariants as op
use Rattle.smc_core.specs.declared.word.Word.{Word}
use Rattle.smc_core.specs.Local.{fresh, after}
use Rattle.smc_core.specs.Machine.{Machine, Steps, Leads, IsOpened, IsOpening, first_word, started, stepped}
use Rattle.smc_core.specs.Row.{Suits, has_place, place_of, row_after, row_shows, unpacked, OpFits}
use Rattle.smc_core.specs.Told.{adds, told_by_step, told_along}
use Rattle.smc_rules.specs.History.{History, history_world}
use Rattle.smc_rules.specs.Start.{FitsShape, IsAtStart, IsStart, memory_behind, stands_behind, starting, state_behind}
use Rattle.smc_model.specs.declared.object.Object.{Object}
use Rattle.smc_model.proofs.WorldLaws.{object_of-empty}
use Rattle.smc_rules.specs.Memory.{Memory, apply, same_place}
use Rattle.smc_rules.specs.Mirror.{MirrorsAt, IsMirrored, anywhere}
use Rattle.smc_rules.specs.State.{State, put_stand, stand_change, stand_offer, stand_then, state_after, first_state, world_told, Backs, Backed, IsKept}
use Rattle.smc_rules.proofs.CarryLaws.{along, backs_step, by_pass, get-set_same, get-set_other, put_stand-same, put_stand-other}
use Rattle.smc_rules.proofs.MirrorLaws.{mirrored, apply-other}
use Rattle.smc_rules.proofs.PlaceLaws.{same_place-eq, in_range-has, has-in_range}
use Rattle.smc_rules.proofs.ReadBack.{unpacked-packed}

-- a state, of its parts
abbrev made : Memory → (ℕ → Stand) → World → State
made memory stands world = record { memory = memory; stands = stands; world = world }

-- where the parts are the same, the state is
made-same : (a b : Memory) (k l : ℕ → Stand) (v w : World) → a ≡ b → k ≡ l → v ≡ w → made a k v ≡ made b l w
made-same a b k l v w p q r = ap (λ (x : Memory). made x k v) p ∙ (ap (λ (x : ℕ → Stand). made b x v) q ∙ ap (λ (x : World). made b l x) r)

-- the words of a region without objects suit their places
pub first_suits : (opening : Opening) → IsOpening opening → (there : Place) → Suits there (first_word opening there)
first_suits opening opens place.Epoch = omega (arith, opens.last)
first_suits opening opens place.Round = tt
first_suits opening opens (place.Section i) = omega arith
first_suits opening opens (place.Entry coll entry) = (opens.incarnation, omega arith)
first_suits opening opens (place.Directory coll slot) = tt
first_suits opening opens (place.Back coll slot) = tt
first_suits opening opens (place.Forward coll slot) = omega arith
first_suits opening opens (place.Field coll slot field) = omega arith

module _ (shape : Layout) (opening : Opening) where
  -- a memory that the row mirrors, and that says elsewhere what is said at first, is the one behind the row
  behind-is : (row : List ℕ) (memory : Memory) → MirrorsAt shape anywhere row memory
      → ((there : Place) → has_place shape there ≡ false → memory there ≡ first_word opening there)
      → memory ≡ memory_behind shape opening row
  behind-is row memory mirrors elsewhere = fun_ext (λ there. go there (has_place shape there) refl)
    where
      go : (there : Place) (b : Bool) → has_place shape there ≡ b → memory there ≡ (if b then unpacked there (slice_index row (at shape there)) else first_word opening there)
      go there true has =
          let r : InRange shape there = has-in_range shape there has in
          sym (ap (unpacked there) (mirrors.words there refl r) ∙ unpacked-packed there (memory there) (mirrors.suits there refl r))
      go there false lacks = elsewhere there lacks

  -- elsewhere it says what is said at first
  behind-elsewhere : (row : List ℕ) (there : Place) → has_place shape there ≡ false → memory_behind shape opening row there ≡ first_word opening there
  behind-elsewhere row there lacks = rw lacks refl

  -- an operation on a place of the region leaves the others
  apply-elsewhere : (row : List ℕ) (op : Op) → InRange shape (place_of op) → (there : Place) → has_place shape there ≡ false
      → apply op (memory_behind shape opening row) there ≡ first_word opening there
  apply-elsewhere row op within there lacks = go (same_place there (place_of op)) refl
    where
      go : (b : Bool) → same_place there (place_of op) ≡ b → apply op (memory_behind shape opening row) there ≡ first_word opening there
      go true same =
          let no : true ≡ false = sym (in_range-has shape (place_of op) within) ∙ (ap (has_place shape) (sym (same_place-eq there (place_of op) same)) ∙ lacks) in absurd (cc)
      go false apart = apply-other op (memory_behind shape opening row) there apart ∙ behind-elsewhere row there lacks

  -- the place of an operation that fits
  fits-within : (op : Op) → OpFits shape op → InRange shape (place_of op)
  fits-within (op.Load there) fits = fits
  fits-within (op.Store there w) fits = fits.0
  fits-within (op.Exchange there expect w) fits = fits.0
  fits-within (op.MarkGone coll entry) fits = fits

  -- the pass stands where its local state says
  stands-at : (locals : List Local) (pass : ℕ) (l : Local) → slice_get locals pass ≡ Some l → stands_behind shape locals pass ≡ l.stand
  stands-at locals pass l here = ap (λ (o : Option Local). option_map_or (λ (k : Local). k.stand) o (fresh shape).stand) here

  -- so it is with one put elsewhere
  stands-put : (locals : List Local) (pass : ℕ) (l l' : Local) → slice_get locals pass ≡ Some l
      → put_stand (stands_behind shape locals) pass l'.stand ≡ stands_behind shape (slice_set locals pass l')
  stands-put locals pass l l' here = fun_ext (λ i. by_pass i pass
      (λ same. put_stand-same (stands_behind shape locals) pass i l'.stand same
      ∙ sym (stands-at (slice_set locals pass l') i l' (subst (λ (r : ℕ). slice_get (slice_set locals pass l') r ≡ Some l') (sym same) (get-set_same locals pass l l' here))))
      (λ apart. put_stand-other (stands_behind shape locals) pass i l'.stand apart
      ∙ ap (λ (o : Option Local). option_map_or (λ (k : Local). k.stand) o (fresh shape).stand) (sym (get-set_other locals pass i l' apart))))

  -- all passes stand as at first at first
  stands-first : (n i : ℕ) → (fresh shape).stand ≡ stands_behind shape (replicate n (fresh shape)) i
  stands-first zero i = refl
  stands-first (suc n) zero = refl
  stands-first (suc n) (suc i) = stands-first n i

-- the empty world fits each shape
pub fits-empty : (shape : Layout) → FitsShape shape empty_world
fits-empty shape = record {
  of_its_coll = λ n o is. let nothing = object_of-empty n in absurd (cc);
  whole = λ n o is. let nothing = object_of-empty n in absurd (cc);
}

-- a region without objects is at rest
pub new_at_rest : (shape : Layout) (opening : Opening) → IsOpening opening → IsAtStart shape opening empty_world (first_word opening)
new_at_rest shape opening opens = record {
  epoch = refl;
  round = refl;
  sections = λ pass. refl;
  entries = λ coll entry. (omega arith, opens.incarnation, omega arith);
  slots = λ coll slot. tt;
  owners = λ coll slot number is. absurd (cc);
  forwards = λ coll slot lt. omega (arith, lt);
  given = λ number. (λ some. absurd (let nothing = object_of-empty number in cc), λ given. absurd (let a = given.0 in let b = given.1 in omega arith));
  no_others = λ number past. object_of-empty number;
  present = λ number. ap (λ (found : Option Object). option_map_or (λ (o : Object). o.present) found false) (object_of-empty number);
  values = λ number field value is. absurd (let nothing : word_of empty_world number field ≡ None = ap (option_and_then (λ (o : Object). slice_get o.words field)) (object_of-empty number) in cc);
  fits = fits-empty shape;
}

-- the world that a list of events makes, from its first one on
pub through-adds : (world : World) (pass : ℕ) (e : Option Event) (rest : List (ℕ × Event)) → world_through world (events_of (adds pass e ++ rest)) ≡ world_through (world_told world e) (events_of rest)
through-adds world pass None rest = refl
through-adds world pass (Some event) rest = refl

-- the rule holds of the state behind this machine in this world
pub record HoldsOf (shape : Layout) (opening : Opening) (Rule : State → Type 0) (m : Machine) (world : World) : Type 0 where
  pub backs : Backs shape anywhere m.row m.locals (state_behind shape opening m world)
  pub rule : Rule (state_behind shape opening m world)

module _ (shape : Layout) (opening : Opening) where
  -- the state behind the first machine is one in which no pass has done anything
  pub behind_first : (world : World) (start : List ℕ) → starting shape (memory_behind shape opening start) world ≡ state_behind shape opening (started shape start) world
  behind_first world start = made-same (memory_behind shape opening start) (memory_behind shape opening start) (λ pass. (fresh shape).stand) (stands_behind shape (started shape start).locals) world world
      refl (fun_ext (stands-first shape opening shape.passes)) refl

  -- it stands behind it
  pub backs_first : (world : World) (start : List ℕ) → IsStart shape opening world start
      → Backs shape anywhere start (started shape start).locals (state_behind shape opening (started shape start) world)
  backs_first world start starts = record {
    mirrors = starts.mirrors;
    count = length-replicate shape.passes (fresh shape);
    same = λ pass l is. stands-at shape opening (started shape start).locals pass l is;
  }

  -- what holds where no pass has done anything holds at the start
  pub at_first : (Rule : State → Type 0) (first : World) (start : List ℕ) → IsStart shape opening first start → Rule (starting shape (memory_behind shape opening start) first)
      → HoldsOf shape opening Rule (started shape start) first
  at_first Rule first start starts holds = record { backs = backs_first first start starts; rule = subst Rule (behind_first first start) holds }

  -- a region without objects starts so, in the empty world
  pub new_starts : (start : List ℕ) → IsOpening opening → IsOpened shape opening start → IsStart shape opening empty_world start
  new_starts start opens opened =
      let mirrors : MirrorsAt shape anywhere start (first_word opening) = record { long = opened.long; words = λ there u r. opened.words there r; suits = λ there u r. first_suits opening opens there } in
      let is : first_word opening ≡ memory_behind shape opening start = behind-is shape opening start (first_word opening) mirrors (λ there lacks. refl) in record {
        opens = opens;
        mirrors = subst (MirrorsAt shape anywhere start) is mirrors;
        at_rest = subst (IsAtStart shape opening empty_world) is (new_at_rest shape opening opens);
      }

module _ (shape : Layout) (opening : Opening) (valid : IsShape shape) where
  -- a step of the machine is a step of the state behind it
  pub behind_step : (m : Machine) (world : World) (pass : ℕ) (choice : Choice) (l : Local) (told : ℕ) (op : Op)
      → slice_get m.locals pass ≡ Some l → OpFits shape op → Backs shape anywhere m.row m.locals (state_behind shape opening m world)
      → state_after shape (state_behind shape opening m world) pass choice told op (row_shows shape op m.row)
      ≡ state_behind shape opening (stepped shape m pass l choice told op) (world_told world (stand_change shape pass l.stand choice told (row_shows shape op m.row)).event)
  behind_step m world pass choice l told op here fits backs =
      let memory : Memory = memory_behind shape opening m.row in
      let w : Word = row_shows shape op m.row in
      let l' : Local = after shape pass l choice told w in
      let mir : IsMirrored shape anywhere m.row memory op = mirrored shape anywhere m.row memory op valid backs.mirrors (λ _. fits) in
      let stand : stands_behind shape m.locals pass ≡ l.stand = stands-at shape opening m.locals pass l here in
      made-same (apply op memory) (memory_behind shape opening (row_after shape op m.row))
      (put_stand (stands_behind shape m.locals) pass (stand_then shape pass (stands_behind shape m.locals pass) choice told w)) (stands_behind shape (slice_set m.locals pass l'))
      (world_told world (stand_change shape pass (stands_behind shape m.locals pass) choice told w).event) (world_told world (stand_change shape pass l.stand choice told w).event)
      (behind-is shape opening (row_after shape op m.row) (apply op memory) mir.mirrors (apply-elsewhere shape opening m.row op (fits-within shape opening op fits)))
      (ap (λ (k : Stand). put_stand (stands_behind shape m.locals) pass (stand_then shape pass k choice told w)) stand ∙ stands-put shape opening m.locals pass l l' here)
      (ap (λ (k : Stand). world_told world (stand_change shape pass k choice told w).event) stand)

  module _ (Rule : State → Type 0) (keeps : IsKept shape anywhere Rule) where
    -- by a step
    pub holds_step : (m : Machine) (world : World) (pass : ℕ) (choice : Choice) (next : Machine) (step : Steps shape m pass choice next)
        → HoldsOf shape opening Rule m world → HoldsOf shape opening Rule next (world_told world (told_by_step shape m pass choice next step))
    holds_step m world pass choice next step h =
        let s : State = state_behind shape opening m world in
        let l : Local = step.local in
        let op : Op = step.offered.op in
        let within : pass < shape.passes = omega (arith, slice_get_within m.locals pass l step.here, h.backs.count) in
        let offers : stand_offer shape pass (s.stands pass) choice ≡ Some step.offered =
        ap (λ (k : Stand). stand_offer shape pass k choice) (h.backs.same pass l step.here) ∙ step.offers in
        let fits : OpFits shape op = keeps.fits s pass choice step.offered within h.rule offers refl in
        let mir : IsMirrored shape anywhere m.row s.memory op = mirrored shape anywhere m.row s.memory op valid h.backs.mirrors (λ _. fits) in
        let is : state_after shape s pass choice step.told op (row_shows shape op m.row) ≡ state_behind shape opening (stepped shape m pass l choice step.told op) (world_told world (told_by_step shape m pass choice next step)) =
        behind_step m world pass choice l step.told op step.here fits h.backs in
        subst (λ (k : Machine). HoldsOf shape opening Rule k (world_told world (told_by_step shape m pass choice next step))) (sym step.leads) (record {
          backs = subst (λ (t : State). Backs shape anywhere (stepped shape m pass l choice step.told op).row (stepped shape m pass l choice step.told op).locals t) is
              (backs_step shape anywhere valid m pass choice l step.told op s h.backs step.here mir);
          rule = subst Rule is (keeps.kept s pass choice step.offered step.told (row_shows shape op m.row) within h.rule offers mir.shows);
        })

    -- by a list of steps
    pub holds_along : (m : Machine) (world : World) (steps : List (ℕ × Choice)) (last : Machine) (leads : Leads shape m steps last)
        → HoldsOf shape opening Rule m world → HoldsOf shape opening Rule last (world_through world (events_of (told_along shape m steps last leads)))
    holds_along m world [] last leads h = subst (λ (k : Machine). HoldsOf shape opening Rule k world) leads h
    holds_along m world (first ∷ later) last leads h =
        let e : Option Event = told_by_step shape m first.0 first.1 leads.0 leads.1 in
        subst (HoldsOf shape opening Rule last) (sym (through-adds world first.0 e (told_along shape leads.0 later last leads.2)))
        (holds_along leads.0 (world_told world e) later last leads.2 (holds_step m world first.0 first.1 leads.0 leads.1 h))

    -- so it holds of the state of every history, if it does at the start
    pub holds_then : (first : World) (m : Machine) (h : History shape opening first m) → HoldsOf shape opening Rule (started shape h.start) first → HoldsOf shape opening Rule m (history_world h)
    holds_then first m h begins = holds_along (started shape h.start) first h.steps m h.leads begins

-- a rule that each step keeps, and that holds at the start, holds of a state behind the last machine of every history; at
-- these places the row mirrors it
pub carried_then : (shape : Layout) (these : Place → Bool) → IsShape shape → (Rule : State → Type 0) → IsKept shape these Rule
    → (opening : Opening) (first : World) (m : Machine) (h : History shape opening first m) → Rule (state_behind shape opening (started shape h.start) first)
    → Backed shape these Rule m.row m.locals
carried_then shape these valid Rule keeps opening first m h begins =
    let b = backs_first shape opening first h.start h.starts in
    along shape these valid Rule keeps (started shape h.start) h.steps m (record {
      state = state_behind shape opening (started shape h.start) first;
      backs = record { mirrors = record { long = b.mirrors.long; words = λ there u r. b.mirrors.words there refl r; suits = λ there u r. b.mirrors.suits there refl r }; count = b.count; same = b.same };
      rule = begins;
    }) h.leads

-- where a list has nothing, it has ended
none-past : (xs : List Local) (i : ℕ) → slice_get xs i ≡ None → length xs ≤ i
none-past [] i is = omega arith
none-past (x ∷ xs) zero is = absurd (cc)
none-past (x ∷ xs) (suc i) is = let so = none-past xs i is in omega (arith, so)

-- what the region lacks is as at first: places, and passes
pub record IsElsewhere (shape : Layout) (opening : Opening) (s : State) : Type 0 where
  pub places : (there : Place) → has_place shape there ≡ false → s.memory there ≡ first_word opening there
  pub passes : (pass : ℕ) → shape.passes ≤ pass → s.stands pass ≡ (fresh shape).stand

module _ (shape : Layout) (opening : Opening) where
  pub elsewhere_first : IsElsewhere shape opening (first_state shape opening)
  elsewhere_first = record { places = λ there lacks. refl; passes = λ pass past. refl }

  -- a step of a pass of the region, on a place of it, leaves that
  pub elsewhere_after : (s : State) (pass : ℕ) (choice : Choice) (told : ℕ) (op : Op) (w : Word) → pass < shape.passes → OpFits shape op → IsElsewhere shape opening s
      → IsElsewhere shape opening (state_after shape s pass choice told op w)
  elsewhere_after s pass choice told op w within fits e = record {
    places = λ there lacks. go there lacks (same_place there (place_of op)) refl;
    passes = λ other past. put_stand-other s.stands pass other (stand_then shape pass (s.stands pass) choice told w) (λ same. omega (arith, same, past, within)) ∙ e.passes other past;
  }
    where
      go : (there : Place) → has_place shape there ≡ false → (b : Bool) → same_place there (place_of op) ≡ b → apply op s.memory there ≡ first_word opening there
      go there lacks true same =
          let no : true ≡ false = sym (in_range-has shape (place_of op) (fits-within shape opening op fits)) ∙ (ap (has_place shape) (sym (same_place-eq there (place_of op) same)) ∙ lacks) in absurd (cc)
      go there lacks false apart = apply-other op s.memory there apart ∙ e.places there lacks

  -- so there is one state behind a machine, in each world
  pub one_behind : (m : Machine) (s : State) → Backs shape anywhere m.row m.locals s → IsElsewhere shape opening s → s ≡ state_behind shape opening m s.world
  one_behind m s backs e = made-same s.memory (memory_behind shape opening m.row) s.stands (stands_behind shape m.locals) s.world s.world
      (behind-is shape opening m.row s.memory backs.mirrors e.places) (fun_ext (λ i. go i (slice_get m.locals i) refl)) refl
    where
      go : (i : ℕ) (found : Option Local) → slice_get m.locals i ≡ found → s.stands i ≡ option_map_or (λ (l : Local). l.stand) found (fresh shape).stand
      go i None none = e.passes i (omega (arith, none-past m.locals i none, backs.count))
      go i (Some l) here = backs.same i l here

-- two states behind one machine say the same at each place of the region
pub one_word : (shape : Layout) (m : Machine) (s t : State) → Backs shape anywhere m.row m.locals s → Backs shape anywhere m.row m.locals t
    → (there : Place) → InRange shape there → t.memory there ≡ s.memory there
one_word shape m s t b c there within =
    sym (unpacked-packed there (t.memory there) (c.mirrors.suits there refl within))
    ∙ (ap (unpacked there) (sym (c.mirrors.words there refl within) ∙ b.mirrors.words there refl within)
    ∙ unpacked-packed there (s.memory there) (b.mirrors.suits there refl within))
