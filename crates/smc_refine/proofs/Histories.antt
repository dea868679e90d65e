-- The history of a scan in the events of all passes: where it began, and what it has visited since.
use Rattle.std.proofs.Common.{◌≡◌, ◌≢◌, ◌⊎◌, ℕ, ◌==◌, Bool, true, false, Option, Some, None, List, [], ◌∷◌, ◌++◌, append-nil, append_assoc, inl, inr, refl, sym, ap, ◌∙◌, subst, arith}
use Rattle.std.specs.Prelude.{◌&&◌, Contains, if◌then◌else◌}
use Rattle.std.proofs.lemmas.Bool.Decides.{nat_tests}
use Rattle.std.proofs.lemmas.List.Elements.{Contains-append_left, Contains-append_right, Contains-append_cases, Contains-push, Contains-push_cases}
use Rattle.smc_words.specs.declared.number.Number.{Number}
use Rattle.smc_model.specs.declared.event.Event.{Event}
use Rattle.smc_model.specs.declared.event.Event.TheVariants as event
use Rattle.smc_model.specs.Scans.{PresentIn, PresentThroughout, VisitsRightly, EndsRightly}
use Rattle.smc_model.specs.World.{World, is_present, world_after, world_through}
use Rattle.smc_model.proofs.HistoryLaws.{world_through-append}
use Rattle.smc_core.specs.declared.local.Scan.{Scan}
use Rattle.smc_core.specs.Scan.{new_scan}
use Rattle.smc_core.specs.Words.{same_number}
use Rattle.smc_agreement.proofs.CrossLaws.{by_true}
use Rattle.smc_inv_scan.specs.Marks.{Marks, marks_told}
use Rattle.smc_refine.proofs.HomeLaws.{IsHome, present-in, in-present, in-home}
use Rattle.smc_refine.proofs.OrderSteps.{told_of}

-- the scan that an event speaks of
abbrev pub spoken : Event → Option ℕ
spoken (event.Begin k coll) = Some k
spoken (event.Visit k number) = Some k
spoken (event.End k) = Some k
spoken _ = None

-- none of the events speaks of the scan
abbrev pub SaysNothing : List Event → ℕ → Type 0
SaysNothing events k = (x : Event) → Contains events x → spoken x ≢ Some k

-- the events have one begin of the scan, with what was present then, and the visits behind it are those that are marked
pub record ScanHistory (first : World) (events : List Event) (began visited : Number → Bool) (k : ℕ) (b : Scan) : Type 0 where
  pub earlier : List Event
  pub later : List Event
  pub split : events ≡ earlier ++ event.Begin k b.coll ∷ later
  pub before : SaysNothing earlier k
  pub once : (coll : ℕ) → ¬ (Contains later (event.Begin k coll))
  pub present : (n : Number) → began n ≡ is_present (world_through first earlier) n
  pub marked : (n : Number) → visited n ≡ true → Contains later (event.Visit k n)
  pub met : (n : Number) → Contains later (event.Visit k n) → visited n ≡ true
  pub lasts : b.ended ≡ false → ¬ (Contains later (event.End k))

-- ---- lists

-- what is in a list around an element
in-split : (xs ys : List Event) (y x : Event) → Contains (xs ++ y ∷ ys) x → Contains xs x ⊎ ((y ≡ x) ⊎ Contains ys x)
in-split xs ys y x h = elim (Contains-append_cases xs (y ∷ ys) x h) [
  | inl old ↦ inl old
  | inr new ↦ elim (Contains-append_cases (y ∷ []) ys x new) [
    | inl one ↦ elim (Contains-push_cases [] y x one) [ inl nothing ↦ absurd (omega (arith, nothing.1)) | inr same ↦ inr (inl same) ]
    | inr rest ↦ inr (inr rest)
  ]
]

-- an event that speaks of a scan, and is not the latest
older : (xs : List Event) (e : Option Event) (k : ℕ) (x : Event) → ((y : Event) → e ≡ Some y → spoken y ≢ Some k) → spoken x ≡ Some k → Contains (xs ++ told_of e) x → Contains xs x
older xs None k x other is h = subst (λ (l : List Event). Contains l x) (append-nil xs) h
older xs (Some y) k x other is h = elim (Contains-push_cases xs y x h) [ inl old ↦ old | inr same ↦ absurd (other y refl (ap spoken same ∙ is)) ]

-- the parts of a list that begins with a begin
abbrev tail_of : List Event → List Event
tail_of [] = []
tail_of (x ∷ xs) = xs

abbrev coll_of : List Event → ℕ
coll_of (event.Begin k coll ∷ xs) = coll
coll_of _ = 0

-- a scan begins at one place
one-split : (k c d : ℕ) (xs ys earlier later : List Event) → ((coll : ℕ) → ¬ (Contains xs (event.Begin k coll))) → ((coll : ℕ) → ¬ (Contains ys (event.Begin k coll)))
    → xs ++ event.Begin k c ∷ ys ≡ earlier ++ event.Begin k d ∷ later → (xs ≡ earlier) × (c ≡ d) × (ys ≡ later)
one-split k c d [] ys [] later nx ny e = (refl, ap coll_of e, ap tail_of e)
one-split k c d [] ys (x ∷ earlier) later nx ny e =
    let behind : ys ≡ earlier ++ event.Begin k d ∷ later = ap tail_of e in
    absurd (ny d (subst (λ (l : List Event). Contains l (event.Begin k d)) (sym behind) (Contains-append_right earlier (event.Begin k d ∷ later) (event.Begin k d) (0, omega arith, refl))))
one-split k c d (x ∷ xs) ys [] later nx ny e =
    let same : x ≡ event.Begin k d = cc in
    absurd (nx d (subst (λ (y : Event). Contains (x ∷ xs) y) same (0, omega arith, refl)))
one-split k c d (x ∷ xs) ys (y ∷ earlier) later nx ny e =
    let same : x ≡ y = cc in
    let (front, of, behind) = one-split k c d xs ys earlier later (λ coll h. nx coll (Contains-append_right (x ∷ []) xs (event.Begin k coll) h)) ny (ap tail_of e) in
    (ap (λ (l : List Event). x ∷ l) front ∙ ap (λ (z : Event). z ∷ earlier) same, of, behind)

-- a list behind a split, with one more at its end
longer-split : (events xs ys : List Event) (y : Event) (e : Option Event) → events ≡ xs ++ y ∷ ys → events ++ told_of e ≡ xs ++ y ∷ (ys ++ told_of e)
longer-split events xs ys y e is = ap (λ (l : List Event). l ++ told_of e) is ∙ append_assoc xs (y ∷ ys) (told_of e)

-- ---- what an event makes of a history

module _ (first : World) (events : List Event) (world : World) (m : Marks) (k : ℕ) where
  -- the marks of a scan
  abbrev pub HistoryOf : List Event → Marks → Scan → Type 0
  HistoryOf es marks b = ScanHistory first es (marks.began k) (marks.visited k) k b

  -- an event of another scan
  pub history-other : (e : Option Event) (b c : Scan) (began visited : Number → Bool) → HistoryOf events m b → c.coll ≡ b.coll → (c.ended ≡ false → b.ended ≡ false)
      → ((y : Event) → e ≡ Some y → spoken y ≢ Some k)
      → ((n : Number) → began n ≡ m.began k n) → ((n : Number) → visited n ≡ m.visited k n)
      → ScanHistory first (events ++ told_of e) began visited k c
  history-other e b c began visited h coll end other bg vs = record {
    earlier = h.earlier;
    later = h.later ++ told_of e;
    split = subst (λ (z : ℕ). events ++ told_of e ≡ h.earlier ++ event.Begin k z ∷ (h.later ++ told_of e)) (sym coll) (longer-split events h.earlier h.later (event.Begin k b.coll) e h.split);
    before = h.before;
    once = λ d at. h.once d (older h.later e k (event.Begin k d) other refl at);
    present = λ n. bg n ∙ h.present n;
    marked = λ n is. Contains-append_left h.later (told_of e) (event.Visit k n) (h.marked n (sym (vs n) ∙ is));
    met = λ n at. vs n ∙ h.met n (older h.later e k (event.Visit k n) other refl at);
    lasts = λ going at. h.lasts (end going) (older h.later e k (event.End k) other refl at);
  }

  -- a visit of it
  pub history-visit : (n : Number) (b c : Scan) → HistoryOf events m b → c.coll ≡ b.coll → c.ended ≡ b.ended
      → HistoryOf (events ++ event.Visit k n ∷ []) (marks_told world m (Some (event.Visit k n))) c
  history-visit n b c h coll end = record {
    earlier = h.earlier;
    later = h.later ++ event.Visit k n ∷ [];
    split = subst (λ (z : ℕ). events ++ event.Visit k n ∷ [] ≡ h.earlier ++ event.Begin k z ∷ (h.later ++ event.Visit k n ∷ [])) (sym coll)
        (longer-split events h.earlier h.later (event.Begin k b.coll) (Some (event.Visit k n)) h.split);
    before = h.before;
    once = λ d at. elim (Contains-push_cases h.later (event.Visit k n) (event.Begin k d) at) [ inl old ↦ h.once d old | inr same ↦ absurd (cc) ];
    present = h.present;
    marked = λ x is. by_true (k == k && same_number x n)
        (λ t. let same : x ≡ n = numbers x n (grind (arith, nat_tests, t)) in subst (λ (z : Number). Contains (h.later ++ event.Visit k n ∷ []) (event.Visit k z)) (sym same) (Contains-push h.later (event.Visit k n)))
        (λ f. Contains-append_left h.later (event.Visit k n ∷ []) (event.Visit k x) (h.marked x (subst (λ (z : Bool). (if z then true else m.visited k x) ≡ true) f is)));
    met = λ x at. elim (Contains-push_cases h.later (event.Visit k n) (event.Visit k x) at) [
      | inl old ↦ stays (k == k && same_number x n) (m.visited k x) (h.met x old)
      | inr same ↦ let eq : n ≡ x = grind (arith, same) in
          subst (λ (z : Number). (if k == k && same_number z n then true else m.visited k z) ≡ true) eq (subst (λ (z : Bool). (if z then true else m.visited k n) ≡ true) (sym (itself n)) refl)
    ];
    lasts = λ going at. elim (Contains-push_cases h.later (event.Visit k n) (event.End k) at) [ inl old ↦ h.lasts (sym end ∙ going) old | inr same ↦ absurd (cc) ];
  }
    where
      stays : (b v : Bool) → v ≡ true → (if b then true else v) ≡ true
      stays true v is = refl
      stays false v is = is

      numbers : (x y : Number) → same_number x y ≡ true → x ≡ y
      numbers x y t = grind (arith, nat_tests, t)

      itself : (x : Number) → (k == k && same_number x x) ≡ true
      itself x = grind (arith, nat_tests)

  -- its end
  pub history-end : (b c : Scan) → HistoryOf events m b → c.coll ≡ b.coll → c.ended ≡ true → HistoryOf (events ++ event.End k ∷ []) m c
  history-end b c h coll end = record {
    earlier = h.earlier;
    later = h.later ++ event.End k ∷ [];
    split = subst (λ (z : ℕ). events ++ event.End k ∷ [] ≡ h.earlier ++ event.Begin k z ∷ (h.later ++ event.End k ∷ [])) (sym coll)
        (longer-split events h.earlier h.later (event.Begin k b.coll) (Some (event.End k)) h.split);
    before = h.before;
    once = λ d at. elim (Contains-push_cases h.later (event.End k) (event.Begin k d) at) [ inl old ↦ h.once d old | inr same ↦ absurd (cc) ];
    present = h.present;
    marked = λ n is. Contains-append_left h.later (event.End k ∷ []) (event.Visit k n) (h.marked n is);
    met = λ n at. elim (Contains-push_cases h.later (event.End k) (event.Visit k n) at) [ inl old ↦ h.met n old | inr same ↦ absurd (cc) ];
    lasts = λ going at. absurd (cc);
  }

  -- its begin
  pub history-begin : (coll : ℕ) → world ≡ world_through first events → SaysNothing events k
      → HistoryOf (events ++ event.Begin k coll ∷ []) (marks_told world m (Some (event.Begin k coll))) (new_scan k coll)
  history-begin coll is nothing = record {
    earlier = events;
    later = [];
    split = refl;
    before = nothing;
    once = λ d at. omega (arith, at.1);
    present = λ n. subst (λ (z : Bool). (if z then is_present world n else m.began k n) ≡ is_present (world_through first events) n) (sym itself) (ap (λ (w : World). is_present w n) is);
    marked = λ n t. let no : false ≡ true = subst (λ (z : Bool). (if z then false else m.visited k n) ≡ true) itself t in absurd (cc);
    met = λ n at. absurd (omega (arith, at.1));
    lasts = λ going at. omega (arith, at.1);
  }
    where
      itself : (k == k) ≡ true
      itself = grind (arith, nat_tests)

  -- ---- the rule of scans

  -- a visit of an open scan, the first of an object that is present
  pub visits-rightly : (n : Number) (b : Scan) → HistoryOf events m b → b.ended ≡ false → b.coll ≡ n.coll → world ≡ world_through first events → IsHome world
      → m.visited k n ≡ false → is_present world n ≡ true → VisitsRightly first events k n
  visits-rightly n b h going coll at home new here = record {
    coll = b.coll;
    begun = subst (λ (l : List Event). Contains l (event.Begin k b.coll)) (sym h.split) (Contains-append_right h.earlier (event.Begin k b.coll ∷ h.later) (event.Begin k b.coll) (0, omega arith, refl));
    goes_on = λ is. elim (in-split h.earlier h.later (event.Begin k b.coll) (event.End k) (subst (λ (l : List Event). Contains l (event.End k)) h.split is)) [
      | inl before ↦ h.before (event.End k) before refl
      | inr behind ↦ elim behind [ inl same ↦ absurd (cc) | inr later ↦ h.lasts going later ]
    ];
    present = subst (λ (w : World). PresentIn w b.coll n) at (present-in world b.coll n home (sym coll) here);
    not_visited = λ is. elim (in-split h.earlier h.later (event.Begin k b.coll) (event.Visit k n) (subst (λ (l : List Event). Contains l (event.Visit k n)) h.split is)) [
      | inl before ↦ h.before (event.Visit k n) before refl
      | inr behind ↦ elim behind [ inl same ↦ absurd (cc) | inr later ↦ let seen : m.visited k n ≡ true = h.met n later in absurd (cc) ]
    ];
  }

  -- an end of a scan that has visited what was present when it began and is present now
  pub ends-rightly : (b : Scan) → HistoryOf events m b → world ≡ world_through first events → IsHome world
      → ((n : Number) → n.coll ≡ b.coll → m.began k n ≡ true → is_present world n ≡ true → m.visited k n ≡ true) → EndsRightly first events k
  ends-rightly b h at home fits earlier coll later split n throughout =
      let (front, same, behind) = one-split k b.coll coll h.earlier h.later earlier later (λ d x. h.before (event.Begin k d) x refl) h.once (sym h.split ∙ split) in
      let begun : PresentIn (world_through first earlier) coll n = first-in later (world_through first earlier) throughout in
      let last : PresentIn world coll n = subst (λ (w : World). PresentIn w coll n)
      (sym (world_through-append first earlier (event.Begin k coll ∷ later)) ∙ (ap (world_through first) (sym split) ∙ sym at)) (last-in later (world_through first earlier) throughout) in
      subst (λ (l : List Event). Contains l (event.Visit k n)) behind (h.marked n
      (fits n (sym (in-home world coll n home last) ∙ sym same)
      (h.present n ∙ subst (λ (l : List Event). is_present (world_through first l) n ≡ true) (sym front) (in-present (world_through first earlier) coll n begun))
      (in-present world coll n last)))
    where
      first-in : (es : List Event) (w : World) → PresentThroughout w coll n es → PresentIn w coll n
      first-in [] w p = p
      first-in (x ∷ es) w p = p.0

      last-in : (es : List Event) (w : World) → PresentThroughout w coll n es → PresentIn (world_through w es) coll n
      last-in [] w p = p
      last-in (x ∷ es) w p = last-in es (world_after w x) p.1
