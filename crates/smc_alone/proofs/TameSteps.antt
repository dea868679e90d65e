-- What each step keeps of a call that leaves no slot and no entry for later use.
use Rattle.std.proofs.Common.{◌≡◌, ℕ, ◌≤◌, ◌&&◌, Bool, true, false, Option, Some, None, List, refl, sym, ap, ◌∙◌, subst, arith}
use Rattle.std.specs.Prelude.{IfSome, nat_lt, length, if◌then◌else◌}
use Rattle.std.proofs.lemmas.Bool.{cond_both}
use Rattle.smc_words.specs.declared.dir.Dir.{Dir}
use Rattle.smc_words.specs.declared.dir.Dir.TheVariants as dir
use Rattle.smc_shape.specs.Layout.{Layout, width_of}
use Rattle.smc_shape.specs.declared.place.Place.{Place}
use Rattle.smc_shape.specs.declared.place.Place.TheVariants as place
use Rattle.smc_model.specs.declared.event.Event.{Event}
use Rattle.smc_model.specs.World.{World}
use Rattle.smc_core.specs.declared.call.Call.{Call}
use Rattle.smc_core.specs.declared.call.Call.TheVariants as call
use Rattle.smc_core.specs.declared.call.Choice.{Choice}
use Rattle.smc_core.specs.declared.call.Choice.TheVariants.{Start, Go}
use Rattle.smc_core.specs.declared.done.Done.{Done}
use Rattle.smc_core.specs.declared.local.Opening.{Opening}
use Rattle.smc_core.specs.declared.local.Owned.{Owned}
use Rattle.smc_core.specs.declared.local.Stand.{Stand}
use Rattle.smc_core.specs.declared.op.Offer.{Offer}
use Rattle.smc_core.specs.declared.op.Op.{Op}
use Rattle.smc_core.specs.declared.op.Op.TheVariants.{Load, Store, Exchange, MarkGone}
use Rattle.smc_core.specs.declared.phase.Phase.{Phase}
use Rattle.smc_core.specs.declared.phase.Phase.TheVariants as phase
use Rattle.smc_core.specs.declared.phase.moves.CountPhase.{CountPhase}
use Rattle.smc_core.specs.declared.phase.objects.AddPhase.{AddPhase}
use Rattle.smc_core.specs.declared.phase.objects.LookPhase.{LookPhase}
use Rattle.smc_core.specs.declared.phase.objects.ScanPhase.{ScanPhase}
use Rattle.smc_core.specs.declared.phase.objects.Seeker.{Seeker}
use Rattle.smc_core.specs.declared.phase.objects.Seeker.TheVariants as seeker
use Rattle.smc_core.specs.declared.section.Section.{Section}
use Rattle.smc_core.specs.declared.section.Section.TheVariants.{Outside}
use Rattle.smc_core.specs.declared.word.State as E
use Rattle.smc_core.specs.declared.word.State.TheVariants as state
use Rattle.smc_core.specs.declared.word.Word.{Word}
use Rattle.smc_core.specs.declared.word.Word.TheVariants as word
use Rattle.smc_core.specs.Add.{add_offer, is_value, takes}
use Rattle.smc_core.specs.Change.{go_change, start_change}
use Rattle.smc_core.specs.Count.{count_offer}
use Rattle.smc_core.specs.Look.{look_offer, seeker_of, sought_number}
use Rattle.smc_core.specs.Offer.{go_offer, held_slot, offer, start_offer}
use Rattle.smc_core.specs.Row.{has_place}
use Rattle.smc_core.specs.Scan.{is_over, scan_of, scan_offer}
use Rattle.smc_core.specs.Words.{dir_of, same_word, state_of}
use Rattle.smc_core.specs.Local.{words_after}
use Rattle.smc_rules.specs.Memory.{Memory, apply, put_word, same_place, seen}
use Rattle.smc_rules.specs.Reads.{dir_in, epoch_of_region, state_in}
use Rattle.smc_rules.specs.State as S
use Rattle.smc_rules.specs.State.{stand_change, world_told}
use Rattle.smc_rules.proofs.PlaceLaws.{same_place-eq}
use Rattle.smc_rules.proofs.OfferLaws.{if_outside, if_inside, if_test, if_held, if_begun}
use Rattle.smc_aside.proofs.Runs.{Saying, IsStable, IsKeptBy, HoldsAfter, Carries}
use Rattle.smc_aside.proofs.Stillness.{Still, quiet-still, quiet-epoch, still-dir, still-state}
use Rattle.smc_inv_use.proofs.EpochsTold.{tells-epochs}
use Rattle.smc_inv_use.proofs.Used.{Used}
use Rattle.smc_calls.proofs.CallsGoOn.{Comes, GoesOn, InCall, IsSought, coll_added, coll_counted, comes-go, comes-start, scan_in, told_in}
use Rattle.smc_epochs.proofs.EpochSteps.{EpochBy, step-by}
use Rattle.smc_core.specs.declared.done.Done.TheVariants as done

-- no slot and no entry was left at a later stamp than this one
pub record Old (b : ℕ) (memory : Memory) : Type 0 where
  pub slots : (c slot stamp : ℕ) → dir_in memory c slot ≡ dir.Limbo stamp → stamp ≤ b
  pub entries : (c e last stamp : ℕ) → state_in memory c e ≡ state.Free last stamp → stamp ≤ b

-- so it is where nothing but the epoch and section words has changed
pub old-still : (b : ℕ) (before after : Memory) → Still before after → Old b before → Old b after
old-still b before after still old = record {
  slots = λ c slot stamp is. old.slots c slot stamp (sym (still-dir before after still c slot) ∙ is);
  entries = λ c e last stamp is. old.entries c e last stamp (sym (still-state before after still c e) ∙ is);
}

-- whether a word leaves a slot or an entry
abbrev leaves_word : Word → Bool
leaves_word (word.Directory (dir.Limbo stamp)) = true
leaves_word (word.Entry (state.Free last stamp)) = true
leaves_word _ = false

abbrev leaves_by : Op → Bool
leaves_by (Load there) = false
leaves_by (Store there w) = leaves_word w
leaves_by (Exchange there expect w) = leaves_word w
leaves_by (MarkGone coll entry) = true

leaves-limbo : (w : Word) (stamp : ℕ) → dir_of w ≡ dir.Limbo stamp → leaves_word w ≡ true
leaves-limbo (word.Directory d) stamp is = ap (λ (k : Dir). leaves_word (word.Directory k)) is
leaves-limbo w stamp is = absurd (cc)

leaves-free : (w : Word) (last stamp : ℕ) → state_of w ≡ state.Free last stamp → leaves_word w ≡ true
leaves-free (word.Entry e) last stamp is = ap (λ (k : E.State). leaves_word (word.Entry k)) is
leaves-free w last stamp is = absurd (cc)

old-put : (b : ℕ) (memory : Memory) (here : Place) (w : Word) → Old b memory → (leaves_word w ≡ false) → Old b (put_word memory here w)
old-put b memory here w old none = record {
  slots = λ c slot stamp is. cond_both (same_place (place.Directory c slot) here) w (memory (place.Directory c slot)) (λ v. dir_of v ≡ dir.Limbo stamp → stamp ≤ b)
      (λ t is. absurd (let no : true ≡ false = sym (leaves-limbo w stamp is) ∙ none in cc)) (λ n is. old.slots c slot stamp is) is;
  entries = λ c e last stamp is. cond_both (same_place (place.Entry c e) here) w (memory (place.Entry c e)) (λ v. state_of v ≡ state.Free last stamp → stamp ≤ b)
      (λ t is. absurd (let no : true ≡ false = sym (leaves-free w last stamp is) ∙ none in cc)) (λ n is. old.entries c e last stamp is) is;
}

-- what is put where a word already says it changes nothing
old-same : (b : ℕ) (memory : Memory) (here : Place) → Old b memory → Old b (put_word memory here (memory here))
old-same b memory here old = record {
  slots = λ c slot stamp is. old.slots c slot stamp (ap dir_of (sym (same (place.Directory c slot))) ∙ is);
  entries = λ c e last stamp is. old.entries c e last stamp (ap state_of (sym (same (place.Entry c e))) ∙ is);
}
  where
    same : (there : Place) → put_word memory here (memory here) there ≡ memory there
    same there = cond_both (same_place there here) (memory here) (memory there) (λ v. v ≡ memory there) (λ t. ap memory (sym (same_place-eq there here t))) (λ n. refl)

old-apply : (b : ℕ) (op : Op) (memory : Memory) → leaves_by op ≡ false → Old b memory → Old b (apply op memory)
old-apply b (Load there) memory none old = old
old-apply b (Store there w) memory none old = old-put b memory there w old none
old-apply b (Exchange there expect w) memory none old =
    cond_both (same_word (memory there) expect) w (memory there) (λ v. Old b (put_word memory there v)) (λ t. old-put b memory there w old none) (λ n. old-same b memory there old)
old-apply b (MarkGone coll entry) memory none old = absurd (cc)

-- a call that leaves none, and neither begins nor ends a section, nor advances
abbrev pub IsTameCall : Call → Type 0
IsTameCall call.Enter = ⊥
IsTameCall call.Leave = ⊥
IsTameCall call.Advance = ⊥
IsTameCall (call.Remove number) = ⊥
IsTameCall (call.Begin coll) = ⊥
IsTameCall call.Finish = ⊥
IsTameCall call.Cancel = ⊥
IsTameCall _ = Unit {0}

-- such a call is in progress, or has ended
abbrev TamePart : Phase → Option Done → Type 0
TamePart phase.Idle answer = Unit {0}
TamePart (phase.Look next) None = Unit {0}
TamePart (phase.Add next) None = Unit {0}
TamePart (phase.Scan next) None = Unit {0}
TamePart (phase.Survey next) None = Unit {0}
TamePart _ _ = ⊥

tame-in : (next : Phase) (words : List ℕ) (made : Call) → InCall next words made → IsTameCall made → TamePart next None
tame-in phase.Idle words made is tame = absurd is
tame-in phase.Entering words made is tame = absurd (subst IsTameCall is tame)
tame-in (phase.Advancing epoch other) words made is tame = absurd (subst IsTameCall is tame)
tame-in (phase.Ready epoch) words made is tame = absurd (subst IsTameCall is tame)
tame-in (phase.Look next) words made is tame = tt
tame-in (phase.Add next) words made is tame = tt
tame-in (phase.Remove next) words made is tame = absurd (subst IsTameCall is tame)
tame-in (phase.Scan next) words made is tame = tt
tame-in (phase.Begin next) words made is tame = absurd (subst IsTameCall is tame)
tame-in (phase.Finish next) words made is tame = absurd (subst IsTameCall is tame)
tame-in (phase.Cancel next) words made is tame = absurd (subst IsTameCall is tame)
tame-in (phase.Survey next) words made is tame = tt

tame-on : (made : Call) (words : List ℕ) (all : Option Event) (d : Option Done) (next : Phase) → GoesOn made words all d next → IsTameCall made → TamePart next d
tame-on made words all None next on tame = tame-in next words made on.0 tame
tame-on made words all (Some answer) next on tame = subst (λ (k : Phase). TamePart k (Some answer)) (sym on.0) tt

-- the call of a look-up
sought : (P : Type 0) (words : List ℕ) (next : LookPhase) → ((made : Call) → InCall (phase.Look next) words made → IsTameCall made → P) → P
sought P words next by = go (seeker_of next) refl
  where
    go : (who : Seeker) → seeker_of next ≡ who → P
    go seeker.Caller is = by (call.Look (sought_number next)) (subst (λ (k : Seeker). IsSought k (sought_number next) (call.Look (sought_number next))) (sym is) refl) tt
    go (seeker.Scan scan coll slot) is = by (call.Next scan) (subst (λ (k : Seeker). IsSought k (sought_number next) (call.Next scan)) (sym is) refl) tt

abbrev None_left : Offer → Type 0
None_left o = leaves_by o.op ≡ false

look-none : (next : LookPhase) → None_left (look_offer next)
look-none next = grind arith

add-none : (words : List ℕ) (next : AddPhase) → None_left (add_offer words next)
add-none words next = grind arith

scan-none : (pass : ℕ) (next : ScanPhase) → None_left (scan_offer pass next)
scan-none pass next = grind arith

count-none : (next : CountPhase) → None_left (count_offer next)
count-none next = grind arith

either-none : (b : Bool) (x y : Offer) → None_left x → None_left y → None_left (if b then x else y)
either-none true x y here there = here
either-none false x y here there = there

start-none : (shape : Layout) (pass : ℕ) (stand : Stand) (section : Section) (made : Call) → IsTameCall made → IfSome (start_offer shape pass stand section made) None_left
start-none shape pass stand section (call.Add coll from words) tame = if_inside None_left section _ (λ own calm is. if_test None_left (takes shape coll from words) _ (λ t. refl))
start-none shape pass stand section (call.Look number) tame = if_inside None_left section _ (λ own calm is. either-none (has_place shape (place.Entry number.coll number.entry)) _ _ refl refl)
start-none shape pass stand section (call.Read number field) tame =
    if_inside None_left section _ (λ own calm is. if_held None_left (held_slot stand.held number) _ (λ slot _. if_test None_left (nat_lt field (width_of shape number.coll)) _ (λ t. refl)))
start-none shape pass stand section (call.Write number field value) tame =
    if_inside None_left section _ (λ own calm is. if_held None_left (held_slot stand.held number) _ (λ slot _. if_test None_left (nat_lt field (width_of shape number.coll) && is_value value) _ (λ t. refl)))
start-none shape pass stand section (call.Scan coll) tame = if_inside None_left section _ (λ own calm is. if_test None_left (nat_lt coll (length shape.colls)) _ (λ t. refl))
start-none shape pass stand section (call.Next scan) tame = if_inside None_left section _ (λ own calm is. if_begun None_left (scan_of stand.scans scan) _ (λ one _. either-none (is_over shape one) _ _ refl refl))
start-none shape pass stand section (call.Survey coll) tame = if_inside None_left section _ (λ own calm is. if_test None_left (nat_lt coll (length shape.colls)) _ (λ t. refl))
start-none shape pass stand section call.Note tame = if_outside None_left section _ (λ is. refl)
start-none shape pass stand section (call.Learn other note) tame = if_outside None_left section _ (λ is. refl)
start-none shape pass stand section made tame = absurd tame

if-some : (x : Option Offer) (P : Offer → Type 0) → ((o : Offer) → x ≡ Some o → P o) → IfSome x P
if-some None P k = tt
if-some (Some o) P k = k o refl

offered : (P : Offer → Type 0) (x : Option Offer) (o : Offer) → IfSome x P → x ≡ Some o → P o
offered P x o k is = subst (λ (y : Option Offer). IfSome y P) is k

by-up : (d : Option Done) (before after : ℕ) → EpochBy d before after → before ≤ after
by-up None before after is = omega (arith, is)
by-up (Some (done.Advanced epoch)) before after is = omega (arith, is.0)
by-up (Some (done.Overtaken epoch)) before after is = omega (arith, is.0)
by-up (Some done.Spent) before after is = omega (arith, is.0)
by-up (Some _) before after is = omega (arith, is)

-- the section and the round stay, the epoch has not fallen, and none was left
pub record Taming (b e0 : ℕ) (sec : Section) (memory : Memory) (world : World) (section : Section) (owned : Option Owned) (next : Phase) (answer : Option Done) : Type 0 where
  pub in_section : section ≡ sec
  pub no_round : owned ≡ None
  pub epoch : e0 ≤ epoch_of_region memory
  pub old : Old b memory
  pub part : TamePart next answer

module _ (b e0 : ℕ) (sec : Section) where
  tame-stable : IsStable (Taming b e0 sec)
  tame-stable memory op world section owned next answer quiet p = record {
    in_section = p.in_section;
    no_round = p.no_round;
    epoch = let up = quiet-epoch memory op quiet in let was = p.epoch in omega (arith, up, was);
    old = old-still b memory (apply op memory) (quiet-still memory memory op quiet (λ there is. refl)) p.old;
    part = p.part;
  }

  tame-idle : (memory : Memory) (world : World) (section : Section) (owned : Option Owned) (next : Phase) (answer : Done) → Taming b e0 sec memory world section owned next (Some answer) → next ≡ phase.Idle
  tame-idle memory world section owned next answer p = go next p.part
    where
      go : (next : Phase) → TamePart next (Some answer) → next ≡ phase.Idle
      go phase.Idle k = refl
      go next k = absurd k

  module _ (opening : Opening) (shape : Layout) (pass : ℕ) where
    -- after a step of such a call
    tame-step : (s : S.State) → Used opening shape s → (o : Offer) (world : World) (section : Section) (owned : Option Owned) (next : Phase) (d : Option Done)
        → section ≡ sec → owned ≡ None → e0 ≤ epoch_of_region s.memory → Old b s.memory → None_left o → epoch_of_region s.memory ≤ epoch_of_region (apply o.op s.memory) → TamePart next d
        → Taming b e0 sec (apply o.op s.memory) world section owned next d
    tame-step s k o world section owned next d in_section no_round was old none up part = record {
      in_section = in_section;
      no_round = no_round;
      epoch = omega (arith, was, up);
      old = old-apply b o.op s.memory none old;
      part = part;
    }

    -- the epoch does not fall by a step that is offered
    epoch-up : (s : S.State) → Used opening shape s → (section : Section) (next : Phase) (choice : Choice) → (s.stands pass).section ≡ section → (s.stands pass).phase ≡ next
        → (o : Offer) → offer shape pass (s.stands pass) section next choice ≡ Some o → epoch_of_region s.memory ≤ epoch_of_region (apply o.op s.memory)
    epoch-up s k section next choice at_sec at_call o is =
        by-up (stand_change shape pass (s.stands pass) choice 0 (seen o.op s.memory)).answer (epoch_of_region s.memory) (epoch_of_region (apply o.op s.memory))
        (step-by shape pass (s.stands pass) s.memory (tells-epochs opening shape s k.everything).number choice 0 o
        (ap (λ (x : Section). offer shape pass (s.stands pass) x (s.stands pass).phase choice) at_sec ∙ (ap (λ (x : Phase). offer shape pass (s.stands pass) section x choice) at_call ∙ is)))

    start-at : (c : Call) → IsTameCall c → (s : S.State) → Used opening shape s → (section : Section) (owned : Option Owned) → (s.stands pass).section ≡ section → (s.stands pass).phase ≡ phase.Idle
        → Taming b e0 sec s.memory s.world section owned phase.Idle None → (o : Offer) → start_offer shape pass (s.stands pass) section c ≡ Some o → (told : ℕ) (world : World)
        → Taming b e0 sec (apply o.op s.memory) world section owned (start_change shape pass (s.stands pass) section c told (seen o.op s.memory)).phase (start_change shape pass (s.stands pass) section c told (seen o.op s.memory)).answer
    start-at c tame s k section owned at_sec at_call p o is told world =
        let g : Comes c (words_after (s.stands pass).words (Start c)) None (start_change shape pass (s.stands pass) section c told (seen o.op s.memory)) = comes-start shape pass (s.stands pass) o told (seen o.op s.memory) section c is in
        tame-step s k o world section owned _ _ p.in_section p.no_round p.epoch p.old (offered None_left (start_offer shape pass (s.stands pass) section c) o (start-none shape pass (s.stands pass) section c tame) is)
        (epoch-up s k section phase.Idle (Start c) at_sec at_call o is)
        (tame-on c (words_after (s.stands pass).words (Start c)) g.all (start_change shape pass (s.stands pass) section c told (seen o.op s.memory)).answer (start_change shape pass (s.stands pass) section c told (seen o.op s.memory)).phase g.goes_on tame)

    abbrev AfterStart : S.State → Section → Option Owned → Call → Offer → Type 0
    AfterStart s section owned c o = (told : ℕ) → Taming b e0 sec (apply o.op s.memory) (world_told s.world (start_change shape pass (s.stands pass) section c told (seen o.op s.memory)).event) section owned
        (start_change shape pass (s.stands pass) section c told (seen o.op s.memory)).phase (start_change shape pass (s.stands pass) section c told (seen o.op s.memory)).answer

    tame-starts : (c : Call) → IsTameCall c → IsKeptBy (Taming b e0 sec) (Used opening shape) shape pass (Start c)
    tame-starts c tame s k aside within section owned phase.Idle at_sec at_round at_call p = idle c tame
      where
        idle : (c : Call) → IsTameCall c → HoldsAfter (Taming b e0 sec) shape pass s section owned phase.Idle (Start c)
        idle (call.Add coll from words) tame = if-some (start_offer shape pass (s.stands pass) section (call.Add coll from words)) (AfterStart s section owned (call.Add coll from words)) (λ o is told. start-at (call.Add coll from words) tt s k section owned at_sec at_call p o is told _)
        idle (call.Look number) tame = if-some (start_offer shape pass (s.stands pass) section (call.Look number)) (AfterStart s section owned (call.Look number)) (λ o is told. start-at (call.Look number) tt s k section owned at_sec at_call p o is told _)
        idle (call.Read number field) tame = if-some (start_offer shape pass (s.stands pass) section (call.Read number field)) (AfterStart s section owned (call.Read number field)) (λ o is told. start-at (call.Read number field) tt s k section owned at_sec at_call p o is told _)
        idle (call.Write number field value) tame = if-some (start_offer shape pass (s.stands pass) section (call.Write number field value)) (AfterStart s section owned (call.Write number field value)) (λ o is told. start-at (call.Write number field value) tt s k section owned at_sec at_call p o is told _)
        idle (call.Scan coll) tame = if-some (start_offer shape pass (s.stands pass) section (call.Scan coll)) (AfterStart s section owned (call.Scan coll)) (λ o is told. start-at (call.Scan coll) tt s k section owned at_sec at_call p o is told _)
        idle (call.Next scan) tame = if-some (start_offer shape pass (s.stands pass) section (call.Next scan)) (AfterStart s section owned (call.Next scan)) (λ o is told. start-at (call.Next scan) tt s k section owned at_sec at_call p o is told _)
        idle (call.Survey coll) tame = if-some (start_offer shape pass (s.stands pass) section (call.Survey coll)) (AfterStart s section owned (call.Survey coll)) (λ o is told. start-at (call.Survey coll) tt s k section owned at_sec at_call p o is told _)
        idle call.Note tame = if-some (start_offer shape pass (s.stands pass) section call.Note) (AfterStart s section owned call.Note) (λ o is told. start-at call.Note tt s k section owned at_sec at_call p o is told _)
        idle (call.Learn other note) tame = if-some (start_offer shape pass (s.stands pass) section (call.Learn other note)) (AfterStart s section owned (call.Learn other note)) (λ o is told. start-at (call.Learn other note) tt s k section owned at_sec at_call p o is told _)
        idle c tame = absurd tame
    tame-starts c tame s k aside within section owned next at_sec at_round at_call p = tt

    go-at : (s : S.State) → Used opening shape s → (section : Section) (owned : Option Owned) (next : Phase) → (s.stands pass).section ≡ section → (s.stands pass).phase ≡ next
        → Taming b e0 sec s.memory s.world section owned next None → (o : Offer) → go_offer pass (s.stands pass) section next ≡ Some o → (made : Call) → InCall next (s.stands pass).words made → IsTameCall made → None_left o
        → (world : World) → Taming b e0 sec (apply o.op s.memory) world section owned (go_change shape (s.stands pass) section next (seen o.op s.memory)).phase (go_change shape (s.stands pass) section next (seen o.op s.memory)).answer
    go-at s k section owned next at_sec at_call p o is made in_call tame none world =
        let g : Comes made (s.stands pass).words (told_in next) (go_change shape (s.stands pass) section next (seen o.op s.memory)) = comes-go shape pass (s.stands pass) o 0 (seen o.op s.memory) section next made is in_call in
        tame-step s k o world section owned _ _ p.in_section p.no_round p.epoch p.old none (epoch-up s k section next Go at_sec at_call o is)
        (tame-on made (s.stands pass).words g.all (go_change shape (s.stands pass) section next (seen o.op s.memory)).answer (go_change shape (s.stands pass) section next (seen o.op s.memory)).phase g.goes_on tame)

    tame-goes : IsKeptBy (Taming b e0 sec) (Used opening shape) shape pass Go
    tame-goes s k aside within section owned phase.Idle at_sec at_round at_call p = tt
    tame-goes s k aside within section owned (phase.Look next) at_sec at_round at_call p = λ told.
        sought _ (s.stands pass).words next (λ made in_call tame. go-at s k section owned (phase.Look next) at_sec at_call p (look_offer next) refl made in_call tame (look-none next) _)
    tame-goes s k aside within section owned (phase.Add next) at_sec at_round at_call p = λ told.
        go-at s k section owned (phase.Add next) at_sec at_call p (add_offer (s.stands pass).words next) refl (call.Add (coll_added next) 0 (s.stands pass).words) (0, refl) tt (add-none (s.stands pass).words next) _
    tame-goes s k aside within section owned (phase.Scan next) at_sec at_round at_call p = λ told.
        go-at s k section owned (phase.Scan next) at_sec at_call p (scan_offer pass next) refl (call.Next (scan_in next)) refl tt (scan-none pass next) _
    tame-goes s k aside within section owned (phase.Survey next) at_sec at_round at_call p = λ told.
        go-at s k section owned (phase.Survey next) at_sec at_call p (count_offer next) refl (call.Survey (coll_counted next)) refl tt (count-none next) _
    tame-goes s k aside within section owned next at_sec at_round at_call p = absurd p.part

    pub tame-carries : (c : Call) → IsTameCall c → Carries (Taming b e0 sec) (Used opening shape) shape pass c
    tame-carries c tame = record { stable = tame-stable; idle = tame-idle; starts = tame-starts c tame; goes = tame-goes }

-- no add begins outside a section
abbrev pub AddOut : Saying
AddOut memory world section owned next answer = (next ≡ phase.Idle) × (answer ≡ None) × (section ≡ Outside)

module _ (opening : Opening) (shape : Layout) (pass coll from : ℕ) (words : List ℕ) where
  out-starts : IsKeptBy AddOut (Used opening shape) shape pass (Start (call.Add coll from words))
  out-starts s k aside within Outside owned phase.Idle at_sec at_round at_call p = tt
  out-starts s k aside within section owned phase.Idle at_sec at_round at_call p = absurd (let e = p.2 in cc)
  out-starts s k aside within section owned next at_sec at_round at_call p = tt

  out-goes : IsKeptBy AddOut (Used opening shape) shape pass Go
  out-goes s k aside within section owned phase.Idle at_sec at_round at_call p = tt
  out-goes s k aside within section owned next at_sec at_round at_call p = absurd (let e = p.0 in cc)

  pub out-carries : Carries AddOut (Used opening shape) shape pass (call.Add coll from words)
  out-carries = record {
    stable = λ memory op world section owned next answer quiet p. p;
    idle = λ memory world section owned next answer p. p.0;
    starts = out-starts;
    goes = out-goes;
  }
