-- All passes are joined, and the region is closed.
use Rattle.std.proofs.Common.{◌≡◌, ℕ, zero, suc, ◌+◌, List, [], ◌∷◌, ◌++◌, length, refl, sym, ap, ◌∙◌, subst, arith, append_assoc, add-zero}
use Rattle.std.specs.Prelude.{Some, slice_get, slice_index}
use Rattle.std.specs.List.{AllByRecursion}
use mathlib.Core.Option.{some, some-injective, some-ne-none}
use lib.ListN.{get_elem?}
use Rattle.atomic_table.specs.Table.{State, Me, Seen}
use Rattle.atomic_table.specs.Seated.{TableId}
use Rattle.smc_shape.specs.Layout.{Layout}
use Rattle.smc_model.specs.World.{empty_world}
use Rattle.smc_core.specs.declared.local.Local.{Local}
use Rattle.smc_core.specs.declared.local.Opening.{Opening}
use Rattle.smc_inv_range.proofs.ReachLaws.{stands_behind}
use Rattle.smc_region.proofs.StepLaws.{was}
use Rattle.smc_region.specs.declared.law.About.{About}
use Rattle.smc_region.specs.declared.law.View.{View}
use Rattle.smc_region.specs.declared.region.Region.{Region}
use Rattle.smc_region.specs.Callers.{Caller, IsPassOf, IsSeatOf, caller_of}
use Rattle.smc_region.specs.Ends.{AreAll, locals_of, states_of}
use Rattle.smc_region.specs.Reached.{IsReached}
use Rattle.smc_region.specs.Rule.{HoldsLocal}
use Rattle.smc_region.specs.Views.{one, numbered, holding, gathered}
use Rattle.smc_region.proofs.Keeps.{Rule}

pub get-here : {A : Type 0} (xs ys : List A) (x : A) → slice_get (xs ++ x ∷ ys) (length xs) ≡ Some x
get-here [] ys x = refl
get-here (y ∷ xs) ys x = get-here xs ys x

-- the word that is found is the one at its index
pub index_found : (xs : List ℕ) (i x : ℕ) → get_elem? xs i ≡ some x → x ≡ slice_index xs i
index_found [] i x e = absurd (some-ne-none x (sym e))
index_found (y ∷ xs) zero x e = sym (some-injective y x e)
index_found (y ∷ xs) (suc i) x e = index_found xs i x e

-- the seat of a pass that is known by what contracts see of it
pub caller_seat : (number : ℕ) (table : TableId) (me : Me (Unit {0}) View) (v : Caller) → caller_of number table me ≡ v → IsSeatOf number me → me ≡ (one v.shape v.number v.local, [])
caller_seat number table me v is seat = seat.is ∙ (λ i. (one (is i).shape (is i).number (is i).local, []))

-- the last pass of the list, which is taken in next
pub next_pass : (region : Region) (all front rest : List Caller) (c : Caller) → AreAll region all → all ≡ (front ++ c ∷ []) ++ rest → IsPassOf region c × (c.number ≡ length front)
next_pass region all front rest c are is = are.1 (length front) c (subst (λ (cs : List Caller). slice_get cs (length front) ≡ Some c) (sym (is ∙ append_assoc front (c ∷ []) rest)) (get-here front rest c))

same-lists : {A : Type 0} (xs ys : List A) → length xs ≡ length ys → ((k : ℕ) (y : A) → slice_get ys k ≡ Some y → slice_get xs k ≡ Some y) → xs ≡ ys
same-lists [] [] len h = refl
same-lists [] (y ∷ ys) len h = absurd (omega arith)
same-lists (x ∷ xs) [] len h = absurd (omega arith)
same-lists (x ∷ xs) (y ∷ ys) len h = let e = h 0 y refl in let same : x ≡ y = cc in let rest = same-lists xs ys (omega arith) (λ k z at. h (suc k) z at) in λ i. same i ∷ rest i

length-locals : (cs : List Caller) → length (locals_of cs) ≡ length cs
length-locals [] = refl
length-locals (c ∷ cs) = ap suc (length-locals cs)

-- what a seat holds stands in the local states, one after the other
stand : (shape : Layout) (locals : List Local) (owner : ℕ → ℕ) (seat : ℕ) (told : Layout) (n : ℕ) (ls : List Local) → AllByRecursion (HoldsLocal shape locals owner seat told) (numbered n ls)
    → (k : ℕ) (l : Local) → slice_get ls k ≡ Some l → slice_get locals (n + k) ≡ Some l
stand shape locals owner seat told n [] h k l e = cc
stand shape locals owner seat told n (x ∷ ls) (h, hs) zero l e = let same : x ≡ l = cc in rw (add-zero n) (h.2 ∙ ap (λ y. Some y) same)
stand shape locals owner seat told n (x ∷ ls) (h, hs) (suc k) l e = let t = stand shape locals owner seat told (n + 1) ls hs k l e in let same : (n + 1) + k ≡ n + suc k = omega arith in
    subst (λ (i : ℕ). slice_get locals i ≡ Some l) same t

states-numbered : (n : ℕ) (ls : List Local) → states_of (numbered n ls) ≡ ls
states-numbered n [] = refl
states-numbered n (l ∷ ls) = ap (λ xs. l ∷ xs) (states-numbered (n + 1) ls)

closes : (shape : Layout) (opening : Opening) (seat : ℕ) (told : Layout) (cs : List Caller) (s : State (Unit {0}) View) → told ≡ shape → length cs ≡ told.passes → Seen (Rule shape opening) seat (holding told 0 (locals_of cs)) s
    → IsReached told opening s.words (locals_of cs)
closes shape opening seat told cs s is count (kept, at) =
    let fits = kept.fits seat (holding told 0 (locals_of cs)) at in
    let r = kept.reached in
    let b = stands_behind shape opening empty_world (record { row = s.words; locals = kept.locals }) r.valid (was r) in
    let len : length kept.locals ≡ length (locals_of cs) = b.count ∙ ap (λ (t : Layout). t.passes) (sym is) ∙ sym count ∙ sym (length-locals cs) in
    let same : kept.locals ≡ locals_of cs = same-lists kept.locals (locals_of cs) len
    (λ k l e. let t = stand shape kept.locals kept.owner seat told 0 (locals_of cs) fits.passes k l e in let z : 0 + k ≡ k = omega arith in subst (λ (i : ℕ). slice_get kept.locals i ≡ Some l) z t) in
    subst (λ (t : Layout). IsReached t opening s.words (locals_of cs)) (sym is) (subst (λ (ls : List Local). IsReached shape opening s.words ls) same r)

-- the seat of the next pass, and what it makes of the seat that takes it in
pub next_seat : (region : Region) (all front rest : List Caller) (c : Caller) (me : Me (Unit {0}) View) → AreAll region all → all ≡ (front ++ c ∷ []) ++ rest
    → me ≡ (one c.shape c.number c.local, []) → me ≡ (one region.about.shape (length front) c.local, [])
next_seat region all front rest c me are is seat = let n = next_pass region all front rest c are is in seat ∙ (λ i. (one (n.0.1 i) (n.1 i) c.local, []))

pub takes_in : (shape : Layout) (n : ℕ) (ls : List Local) (l : Local) (me me' other : Me (Unit {0}) View) → me ≡ (holding shape (n + 1) ls, []) → other ≡ (one shape n l, []) → me' ≡ (gathered me.0 other.0, me.1)
    → me' ≡ (holding shape n (l ∷ ls), [])
takes_in shape n ls l me me' other is is' new = new ∙ (λ i. (gathered (is i).0 (is' i).0, (is i).1))

-- the two seats know the same shape
pub same_shape : (shape : Layout) (n m : ℕ) (ls : List Local) (l : Local) (me other : Me (Unit {0}) View) → me ≡ (holding shape n ls, []) → other ≡ (one shape m l, []) → me.0.shape ≡ other.0.shape
same_shape shape n m ls l me other is is' = ap (λ (x : Me (Unit {0}) View). x.0.shape) is ∙ sym (ap (λ (x : Me (Unit {0}) View). x.0.shape) is')

no-items : {A : Type 0} (xs : List A) → length xs ≡ 0 → xs ≡ []
no-items [] e = refl
no-items (x ∷ xs) e = absurd (omega arith)

-- the seat when the list is empty
pub all_joined : (shape : Layout) (all front rest : List Caller) (me : Me (Unit {0}) View) → length front ≡ 0 → all ≡ front ++ rest → me ≡ (holding shape (length front) (locals_of rest), []) → me ≡ (holding shape 0 (locals_of all), [])
all_joined shape all front rest me none is seat = let empty = no-items front none in let same : rest ≡ all = (λ i. sym empty i ++ rest) ∙ sym is in seat ∙ (λ i. (holding shape (none i) (locals_of (same i)), []))

pub all_states : (shape : Layout) (ls : List Local) (me : Me (Unit {0}) View) → me ≡ (holding shape 0 ls, []) → states_of me.0.locals ≡ ls
all_states shape ls me is = ap (λ (x : Me (Unit {0}) View). states_of x.0.locals) is ∙ states-numbered 0 ls

-- the words and the local states of a region that is closed are a state that is reached
pub reached_at_end : (key about : About) (seat : ℕ) (cs : List Caller) (me : Me (Unit {0}) View) (words : List ℕ) (s : State (Unit {0}) View) → key ≡ about → length cs ≡ about.shape.passes → me ≡ (holding about.shape 0 (locals_of cs), [])
    → Seen (Rule key.shape key.opening) seat me.0 s → s.words ≡ words → IsReached about.shape about.opening words (states_of me.0.locals)
reached_at_end key about seat cs me words s is count at seen same =
    let here : Seen (Rule about.shape about.opening) seat (holding about.shape 0 (locals_of cs)) s =
    subst (λ (k : About). Seen (Rule k.shape k.opening) seat (holding about.shape 0 (locals_of cs)) s) is (subst (λ (v : View). Seen (Rule key.shape key.opening) seat v s) (λ i. (at i).0) seen) in
    let r = closes about.shape about.opening seat about.shape cs s refl count here in
    let states = all_states about.shape (locals_of cs) me at in
    subst (λ (ls : List Local). IsReached about.shape about.opening words ls) (sym states) (subst (λ (ws : List ℕ). IsReached about.shape about.opening ws (locals_of cs)) same r)
