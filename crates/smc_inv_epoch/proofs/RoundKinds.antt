-- Each step of each kind pays what it owes to the round word.
use Rattle.std.proofs.Common.{◌≡◌, ℕ, ◌+◌, ◌<◌, ◌&&◌, Bool, true, false, Option, Some, None, List, length, refl, sym, ap, ◌∙◌, subst, arith}
use Rattle.std.specs.Prelude.{IfSome, IsTrue, IsSome, is_some, nat_lt, if◌then◌else◌}
use Rattle.smc_words.specs.declared.number.Number.{Number}
use Rattle.smc_words.specs.declared.round.RoundWord.{RoundWord}
use Rattle.smc_shape.specs.Layout.{Layout, width_of}
use Rattle.smc_shape.specs.declared.place.Place.TheVariants as place
use Rattle.smc_core.specs.declared.call.Call.{Call}
use Rattle.smc_core.specs.declared.call.Call.TheVariants as call
use Rattle.smc_core.specs.declared.call.Choice.{Choice}
use Rattle.smc_core.specs.declared.call.Choice.TheVariants.{Start, Go}
use Rattle.smc_core.specs.declared.local.Stand.{Stand}
use Rattle.smc_core.specs.declared.op.Offer.{Offer}
use Rattle.smc_core.specs.declared.op.Op.TheVariants.{Exchange}
use Rattle.smc_core.specs.declared.phase.Phase.{Phase}
use Rattle.smc_core.specs.declared.phase.Phase.TheVariants as phase
use Rattle.smc_core.specs.declared.phase.moves.BeginPhase.{BeginPhase}
use Rattle.smc_core.specs.declared.phase.moves.BeginPhase.TheVariants as begin
use Rattle.smc_core.specs.declared.phase.moves.CancelPhase.{CancelPhase}
use Rattle.smc_core.specs.declared.phase.moves.CancelPhase.TheVariants as cancel
use Rattle.smc_core.specs.declared.phase.moves.CountPhase.{CountPhase}
use Rattle.smc_core.specs.declared.phase.moves.CountPhase.TheVariants as walk
use Rattle.smc_core.specs.declared.phase.moves.FinishPhase.{FinishPhase}
use Rattle.smc_core.specs.declared.phase.moves.FinishPhase.TheVariants as finish
use Rattle.smc_core.specs.declared.phase.objects.AddPhase.{AddPhase}
use Rattle.smc_core.specs.declared.phase.objects.CopyPhase.{CopyPhase}
use Rattle.smc_core.specs.declared.phase.objects.LookPhase.{LookPhase}
use Rattle.smc_core.specs.declared.phase.objects.RemovePhase.{RemovePhase}
use Rattle.smc_core.specs.declared.phase.objects.ScanPhase.{ScanPhase}
use Rattle.smc_core.specs.declared.section.Section.{Section}
use Rattle.smc_core.specs.declared.section.Section.TheVariants.{Outside, Loaded, Announced, Again, Lasting, Inside}
use Rattle.smc_core.specs.declared.word.Word.{Word}
use Rattle.smc_core.specs.declared.word.Word.TheVariants as word
use Rattle.smc_core.specs.Add.{add_offer, is_value, takes}
use Rattle.smc_core.specs.Begin.{begin_offer, round_offer, round_seen}
use Rattle.smc_core.specs.Cancel.{cancel_offer}
use Rattle.smc_core.specs.Change.{change}
use Rattle.smc_core.specs.Count.{count_offer, counting, no_count}
use Rattle.smc_core.specs.Finish.{finish_offer, finish_start, is_early}
use Rattle.smc_core.specs.Local.{section_after, round_after, round_begun}
use Rattle.smc_core.specs.Look.{look_offer, copy_offer}
use Rattle.smc_core.specs.Offer.{offer, go_offer, start_offer, look_start, held_slot}
use Rattle.smc_core.specs.Remove.{remove_offer}
use Rattle.smc_core.specs.Row.{place_of, has_place}
use Rattle.smc_core.specs.Scan.{scan_offer, scan_of, next_offer, is_over}
use Rattle.smc_core.specs.Section.{epoch_of, is_calm, calm_by}
use Rattle.smc_core.specs.Words.{plain_of, round_of, dir_of, state_of, same_word}
use Rattle.smc_rules.specs.Memory.{Memory, apply, seen}
use Rattle.smc_rules.specs.Reads.{round_in}
use Rattle.smc_rules.specs.RoundAgreement.{is_owners}
use Rattle.smc_rules.specs.State.{State}
use Rattle.smc_inv_epoch.specs.Epochs.{is_first}
use Rattle.smc_inv_epoch.specs.Rounds.{Rounds}
use Rattle.smc_rules.proofs.OfferLaws.{if_idle, if_outside, if_inside, if_test, if_held, if_begun, if_owned}
use Rattle.smc_inv_epoch.proofs.RoundMoves.{RoundMoves, still_moves, dropped_moves, begun_moves, leaves_round, leaves_round-same}
use Rattle.smc_inv_epoch.proofs.Strangers as S

-- steps that leave the round word
look-leaves : (next : LookPhase) → IsTrue (leaves_round (look_offer next).op)
look-leaves next = grind arith

copy-leaves : (number : Number) (source : ℕ) (next : CopyPhase) → IsTrue (leaves_round (copy_offer number source next).op)
copy-leaves number source next = grind arith

add-leaves : (words : List ℕ) (next : AddPhase) → IsTrue (leaves_round (add_offer words next).op)
add-leaves words next = grind arith

remove-leaves : (epoch : ℕ) (next : RemovePhase) → IsTrue (leaves_round (remove_offer epoch next).op)
remove-leaves epoch next = grind arith

scan-leaves : (pass : ℕ) (next : ScanPhase) → IsTrue (leaves_round (scan_offer pass next).op)
scan-leaves pass next = grind arith

count-leaves : (next : CountPhase) → IsTrue (leaves_round (count_offer next).op)
count-leaves next = grind arith

either_leaves : (b : Bool) (x y : Offer) → IsTrue (leaves_round x.op) → IsTrue (leaves_round y.op) → IsTrue (leaves_round (if b then x else y).op)
either_leaves true x y h k = h
either_leaves false x y h k = k

module _ (shape : Layout) (state : State) (pass : ℕ) (h : Rounds shape state) (within : pass < shape.passes) where
  abbrev memory : Memory
  memory = state.memory

  abbrev stand : Stand
  stand = state.stands pass

  -- what an offered step pays to the round word
  pub record Tells (section : Section) (call : Phase) (choice : Choice) (o : Offer) : Type 0 where
    pub moves : (told : ℕ) (w : Word) → (IsTrue (is_first (place_of o.op)) → w ≡ seen o.op memory)
        → RoundMoves shape state pass (apply o.op memory) (section_after section call choice w) (change shape pass stand section call choice told w).phase (round_after stand.round section call choice w)

  -- a step that leaves the round word, its section, and the round of its pass
  stays : (section : Section) (call : Phase) (choice : Choice) (o : Offer) → stand.section ≡ section → IsTrue (leaves_round o.op)
      → ((w : Word) → section_after section call choice w ≡ section) → ((w : Word) → round_after stand.round section call choice w ≡ stand.round)
      → ((told : ℕ) (w : Word) → IsTrue (is_owners (change shape pass stand section call choice told w).phase) → IsSome stand.round)
      → Tells section call choice o
  stays section call choice o at left same keeps owners = record {
    moves = λ told w is. still_moves shape state pass h within (apply o.op memory)
        (section_after section call choice w) (change shape pass stand section call choice told w).phase (round_after stand.round section call choice w)
        (leaves_round-same o.op memory left) (keeps w)
        (λ own round at_own is_round. h.rule.calm_bound pass own round within (at ∙ (sym (same w) ∙ at_own)) is_round)
        (λ u. subst IsSome (sym (keeps w)) (owners told w u));
  }

  -- such a step of a call that has nothing to do with rounds
  strange : (section : Section) (call : Phase) (choice : Choice) (o : Offer) → stand.section ≡ section → IsTrue (leaves_round o.op)
      → ((w : Word) → section_after section call choice w ≡ section) → ((w : Word) → round_after stand.round section call choice w ≡ stand.round)
      → ((told : ℕ) (w : Word) → S.Strange (change shape pass stand section call choice told w)) → Tells section call choice o
  strange section call choice o at left same keeps other = stays section call choice o at left same keeps (λ told w u. let no = other told w in absurd (cc))

  -- the steps of enter
  entering : (section : Section) → stand.section ≡ section → IfSome (go_offer pass stand section phase.Entering) (Tells section phase.Entering Go)
  entering Outside at = tt
  entering (Inside own calm) at = tt
  entering (Loaded v) at = record { moves = λ told w is. still_moves shape state pass h within _ (Announced v) phase.Entering stand.round refl refl (λ own round none. cc) (λ u. absurd (cc)) }
  entering (Announced v) at = record { moves = λ told w is. still_moves shape state pass h within _ _ phase.Entering stand.round refl refl (λ own round none. cc) (λ u. absurd (cc)) }
  entering (Again v own) at = record { moves = λ told w is. still_moves shape state pass h within _ (Lasting own) phase.Entering stand.round refl refl (λ s round none. cc) (λ u. absurd (cc)) }
  entering (Lasting own) at = record {
    moves = λ told w is. still_moves shape state pass h within memory (Inside own (calm_by own (round_of w))) phase.Idle stand.round refl refl
        (λ s round at_s is_round.
        let now : round_of w ≡ Some round = ap round_of (is refl) ∙ is_round in
        S.calm-bound own s round (subst (λ (r : Option RoundWord). Inside own (calm_by own r) ≡ Inside s true) now at_s))
        (λ u. absurd (cc));
  }

  -- the owner of a round goes on, or gives it up
  module _ (section : Section) (at : stand.section ≡ section) where
    beginning : (next : BeginPhase) → stand.phase ≡ phase.Begin next → Tells section (phase.Begin next) Go (begin_offer (epoch_of section) next)
    beginning (begin.Nothing coll) at_phase = record { moves = λ told w is. dropped_moves shape state pass h within _ section phase.Idle refl (h.agrees.owners pass within (ap is_owners at_phase)) refl }
    beginning (begin.Count next) at_phase = stays section (phase.Begin (begin.Count next)) Go (count_offer next) at (count-leaves next) (λ w. refl) (λ w. refl) (λ told w u. h.agrees.owners pass within (ap is_owners at_phase))
    beginning next at_phase = stays section (phase.Begin next) Go (begin_offer (epoch_of section) next) at refl (λ w. refl) (λ w. refl) (λ told w u. h.agrees.owners pass within (ap is_owners at_phase))

    finishing : (next : FinishPhase) → stand.phase ≡ phase.Finish next → Tells section (phase.Finish next) Go (finish_offer (epoch_of section) next)
    finishing (finish.End targets) at_phase = record { moves = λ told w is. dropped_moves shape state pass h within _ section phase.Idle refl (h.agrees.owners pass within (ap is_owners at_phase)) refl }
    finishing (finish.Move targets number source next) at_phase = stays section (phase.Finish (finish.Move targets number source next)) Go (copy_offer number source next) at (copy-leaves number source next) (λ w. refl) (λ w. refl) (λ told w u. h.agrees.owners pass within (ap is_owners at_phase))
    finishing next at_phase = stays section (phase.Finish next) Go (finish_offer (epoch_of section) next) at refl (λ w. refl) (λ w. refl) (λ told w u. h.agrees.owners pass within (ap is_owners at_phase))

    cancelling : (next : CancelPhase) → stand.phase ≡ phase.Cancel next → Tells section (phase.Cancel next) Go (cancel_offer (epoch_of section) next)
    cancelling cancel.End at_phase = record { moves = λ told w is. dropped_moves shape state pass h within _ section phase.Idle refl (h.agrees.owners pass within (ap is_owners at_phase)) refl }
    cancelling next at_phase = stays section (phase.Cancel next) Go (cancel_offer (epoch_of section) next) at refl (λ w. refl) (λ w. refl) (λ told w u. h.agrees.owners pass within (ap is_owners at_phase))

  -- a step that goes on with a call
  going : (section : Section) (call : Phase) → stand.section ≡ section → stand.phase ≡ call → IfSome (go_offer pass stand section call) (Tells section call Go)
  going section phase.Idle at at_phase = tt
  going section phase.Entering at at_phase = entering section at
  going section (phase.Advancing from other) at at_phase = strange section (phase.Advancing from other) Go _ at refl (λ w. refl) (λ w. refl) (λ told w. S.advancing-strange shape from other w)
  going section (phase.Ready from) at at_phase = record {
    moves = λ told w is. still_moves shape state pass h within _ section (change shape pass stand section (phase.Ready from) Go told w).phase stand.round refl refl
        (λ own round at_own is_round. h.rule.calm_bound pass own round within (at ∙ at_own) is_round) (λ u. let no = S.ready-strange from w in absurd (cc));
  }
  going section (phase.Look next) at at_phase = strange section (phase.Look next) Go (look_offer next) at (look-leaves next) (λ w. refl) (λ w. refl) (λ told w. S.looking-strange shape (is_calm section) next w)
  going section (phase.Add next) at at_phase = strange section (phase.Add next) Go (add_offer stand.words next) at (add-leaves stand.words next) (λ w. refl) (λ w. refl) (λ told w. S.add-strange shape (epoch_of section) stand.words next w)
  going section (phase.Remove next) at at_phase = strange section (phase.Remove next) Go (remove_offer (epoch_of section) next) at (remove-leaves (epoch_of section) next) (λ w. refl) (λ w. refl) (λ told w. S.remove-strange next)
  going section (phase.Scan next) at at_phase = strange section (phase.Scan next) Go (scan_offer pass next) at (scan-leaves pass next) (λ w. refl) (λ w. refl) (λ told w. S.scan-strange shape next w)
  going section (phase.Begin next) at at_phase = beginning section at next at_phase
  going section (phase.Finish next) at at_phase = finishing section at next at_phase
  going section (phase.Cancel next) at at_phase = cancelling section at next at_phase
  going section (phase.Survey next) at at_phase = strange section (phase.Survey next) Go (count_offer next) at (count-leaves next) (λ w. refl) (λ w. refl) (λ told w. S.survey-strange (counting shape next w))

  -- a round is begun, or another one is met
  begun_or_met : (own coll : ℕ) (calm : Bool) → stand.section ≡ Inside own calm → (w : Word) → w ≡ memory place.Round
      → RoundMoves shape state pass (apply (round_offer pass own coll).op memory) (Inside own calm) (round_seen coll (round_of w)).phase (round_begun own coll (round_of w) stand.round)
  begun_or_met own coll calm at w is = go (round_in memory) refl
    where
      put : Word
      put = word.Round (Some (record { bound = own + 1; pass = pass; coll = coll }))

      then_memory : Memory
      then_memory = apply (Exchange place.Round (word.Round None) put) memory

      Then : Option RoundWord → Type 0
      Then seen_round = RoundMoves shape state pass then_memory (Inside own calm) (round_seen coll seen_round).phase (round_begun own coll seen_round stand.round)

      here : (r : Option RoundWord) → round_in memory ≡ r → memory place.Round ≡ word.Round r
      here r e = h.agrees.is_round ∙ ap (λ (x : Option RoundWord). word.Round x) e

      shown : (r : Option RoundWord) → round_in memory ≡ r → round_of w ≡ r
      shown r e = ap round_of is ∙ e

      go : (r : Option RoundWord) → round_in memory ≡ r → Then (round_of w)
      go None e = subst Then (sym (shown None e)) (begun_moves shape state pass h within then_memory (Inside own calm) _ own coll calm
          (ap (λ (x : Word). if same_word x (word.Round None) then put else x) (here None e)) e at refl)
      go (Some r) e = subst Then (sym (shown (Some r) e)) (still_moves shape state pass h within then_memory (Inside own calm) phase.Idle stand.round
          (ap (λ (x : Word). if same_word x (word.Round None) then put else x) (here (Some r) e) ∙ sym (here (Some r) e)) refl
          (λ s round at_s is_round. h.rule.calm_bound pass s round within (at ∙ at_s) is_round) (λ u. absurd (cc)))

  begins : (own coll : ℕ) (calm : Bool) → stand.section ≡ Inside own calm → Tells (Inside own calm) phase.Idle (Start (call.Begin coll)) (round_offer pass own coll)
  begins own coll calm at = record { moves = λ told w is. begun_or_met own coll calm at w (is refl) }

  -- the first step of a call
  abbrev Starts : Section → Call → Offer → Type 0
  Starts section call = Tells section phase.Idle (Start call)

  strange_start : (section : Section) (call : Call) (o : Offer) → stand.section ≡ section → IsTrue (leaves_round o.op)
      → ((w : Word) → section_after section phase.Idle (Start call) w ≡ section) → ((w : Word) → round_after stand.round section phase.Idle (Start call) w ≡ stand.round)
      → ((told : ℕ) (w : Word) → S.Strange (change shape pass stand section phase.Idle (Start call) told w)) → Starts section call o
  strange_start section call o at left same keeps other = strange section phase.Idle (Start call) o at left same keeps other

  starting : (section : Section) → stand.section ≡ section → (call : Call) → IfSome (start_offer shape pass stand section call) (Starts section call)
  starting section at call.Enter = if_outside (Starts section call.Enter) section _ (λ is. record {
    moves = λ told w u. still_moves shape state pass h within memory _ phase.Entering stand.round refl refl (λ own round none. cc) (λ u. absurd (cc));
  })
  starting section at call.Leave = if_inside (Starts section call.Leave) section _ (λ own calm is. record {
    moves = λ told w u. still_moves shape state pass h within _ Outside phase.Idle stand.round refl refl (λ own round none. cc) (λ u. absurd (cc));
  })
  starting section at call.Advance = if_outside (Starts section call.Advance) section _ (λ is.
      strange_start section call.Advance _ at refl (λ w. refl) (λ w. refl) (λ told w. S.advance_started-strange shape (plain_of w)))
  starting section at (call.Add coll from words) = if_inside (Starts section (call.Add coll from words)) section _ (λ own calm is.
      if_test (Starts section (call.Add coll from words)) (takes shape coll from words) _ (λ t.
      strange_start section (call.Add coll from words) _ at refl (λ w. refl) (λ w. refl) (λ told w. S.slot_seen-strange shape (epoch_of section) coll from from 0 (dir_of w))))
  starting section at (call.Look number) = if_inside (Starts section (call.Look number)) section _ (λ own calm is.
      strange_start section (call.Look number) (look_start shape pass number) at (either_leaves (has_place shape (place.Entry number.coll number.entry)) _ _ refl refl) (λ w. refl) (λ w. refl)
      (λ told w. S.look_started-strange shape (is_calm section) number w))
  starting section at (call.Read number field) = if_inside (Starts section (call.Read number field)) section _ (λ own calm is.
      if_held (Starts section (call.Read number field)) (held_slot stand.held number) _ (λ slot _.
      if_test (Starts section (call.Read number field)) (nat_lt field (width_of shape number.coll)) _ (λ t.
      strange_start section (call.Read number field) _ at refl (λ w. refl) (λ w. refl) (λ told w. refl))))
  starting section at (call.Write number field value) = if_inside (Starts section (call.Write number field value)) section _ (λ own calm is.
      if_held (Starts section (call.Write number field value)) (held_slot stand.held number) _ (λ slot _.
      if_test (Starts section (call.Write number field value)) (nat_lt field (width_of shape number.coll) && is_value value) _ (λ t.
      strange_start section (call.Write number field value) _ at refl (λ w. refl) (λ w. refl) (λ told w. refl))))
  starting section at (call.Remove number) = if_inside (Starts section (call.Remove number)) section _ (λ own calm is.
      if_held (Starts section (call.Remove number)) (held_slot stand.held number) _ (λ slot _.
      strange_start section (call.Remove number) _ at refl (λ w. refl) (λ w. refl) (λ told w. S.remove_started-strange number (held_slot stand.held number) (state_of w))))
  starting section at (call.Scan coll) = if_inside (Starts section (call.Scan coll)) section _ (λ own calm is.
      if_test (Starts section (call.Scan coll)) (nat_lt coll (length shape.colls)) _ (λ t.
      strange_start section (call.Scan coll) _ at refl (λ w. refl) (λ w. refl) (λ told w. refl)))
  starting section at (call.Next scan) = if_inside (Starts section (call.Next scan)) section _ (λ own calm is.
      if_begun (Starts section (call.Next scan)) (scan_of stand.scans scan) _ (λ one _.
      strange_start section (call.Next scan) (next_offer shape pass one) at (either_leaves (is_over shape one) _ _ refl refl) (λ w. refl) (λ w. refl)
      (λ told w. S.next_started-strange shape (scan_of stand.scans scan) w)))
  starting section at (call.Begin coll) = if_inside (Starts section (call.Begin coll)) section _ (λ own calm is.
      if_test (Starts section (call.Begin coll)) (nat_lt coll (length shape.colls)) _ (λ t.
      subst (λ (s : Section). Starts s (call.Begin coll) (round_offer pass (epoch_of s) coll)) (sym is) (begins own coll calm (at ∙ is))))
  starting section at call.Finish = if_inside (Starts section call.Finish) section _ (λ own calm is.
      if_owned (Starts section call.Finish) stand.round _ (λ owned has.
      stays section phase.Idle (Start call.Finish) (finish_start pass (epoch_of section) owned) at (either_leaves (is_early (epoch_of section) owned.bound) _ _ refl refl) (λ w. refl) (λ w. refl)
      (λ told w u. ap is_some has)))
  starting section at call.Cancel = if_inside (Starts section call.Cancel) section _ (λ own calm is.
      if_owned (Starts section call.Cancel) stand.round _ (λ owned has.
      stays section phase.Idle (Start call.Cancel) _ at refl (λ w. refl) (λ w. refl) (λ told w u. ap is_some has)))
  starting section at (call.Survey coll) = if_inside (Starts section (call.Survey coll)) section _ (λ own calm is.
      if_test (Starts section (call.Survey coll)) (nat_lt coll (length shape.colls)) _ (λ t.
      strange_start section (call.Survey coll) _ at refl (λ w. refl) (λ w. refl) (λ told w. S.survey-strange (counting shape (walk.Directory coll 0 no_count) w))))
  starting section at call.Note = if_outside (Starts section call.Note) section _ (λ is.
      strange_start section call.Note _ at refl (λ w. refl) (λ w. refl) (λ told w. refl))
  starting section at (call.Learn other note) = if_outside (Starts section (call.Learn other note)) section _ (λ is.
      strange_start section (call.Learn other note) _ at refl (λ w. refl) (λ w. refl) (λ told w. refl))

  -- each offered step pays
  pub tells : (choice : Choice) → IfSome (offer shape pass stand stand.section stand.phase choice) (Tells stand.section stand.phase choice)
  tells Go = going stand.section stand.phase refl refl
  tells (Start call) = if_idle (Tells stand.section stand.phase (Start call)) stand.phase (start_offer shape pass stand stand.section call)
      (λ is. subst (λ f. IfSome (start_offer shape pass stand stand.section call) (Tells stand.section f (Start call))) (sym is) (starting stand.section refl call))
