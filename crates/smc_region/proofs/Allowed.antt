-- What the table asks of each operation.
use Rattle.std.proofs.Common.{◌≡◌, ℕ, ◌<◌, ◌==◌, sym, subst, ap, ◌∙◌, arith}
use Rattle.std.specs.Prelude.{Some, None}
use prog.Atomic.{either}
use Rattle.atomic_table.specs.Table.{Me, Allows}
use Rattle.smc_shape.specs.Layout.{Layout, IsShape, words_of}
use Rattle.smc_shape.specs.Places.{at}
use Rattle.smc_shape.specs.declared.place.Place.{Place}
use Rattle.smc_shape.specs.declared.place.Place.TheVariants as place
use Rattle.smc_shape.proofs.PlaceLaws.{at-lt}
use Rattle.smc_core.specs.declared.call.Choice.{Choice}
use Rattle.smc_core.specs.declared.local.Opening.{Opening}
use Rattle.smc_core.specs.declared.op.Op.{Op}
use Rattle.smc_core.specs.declared.op.Op.TheVariants.{Store, Exchange}
use Rattle.smc_core.specs.declared.word.Word.{Word}
use Rattle.smc_core.specs.declared.word.Word.TheVariants as word
use Rattle.smc_core.specs.Row.{OpFits, Suits, place_of, packed, put}
use Rattle.smc_region.specs.declared.law.View.{View}
use Rattle.smc_region.specs.Rule.{IsOwn}
use Rattle.smc_region.specs.Views.{IsAlone, view_op}
use Rattle.smc_row.specs.Words.{PartsFit}
use Rattle.smc_region.proofs.Keeps.{Rule, Then, fits_place, seat_acts}

-- at the choice and the operation that a play names, at the index of its place in this shape
pub allowed : (own_shape shape : Layout) (opening : Opening) (slots seat : ℕ) (me : Me (Unit {0}) View) (named choice : Choice) (told op : Op) (word : ℕ)
    → named ≡ choice → told ≡ op → me.0.shape ≡ shape → word ≡ at shape (place_of op) → IsOwn choice → IsAlone me → view_op me.0 choice ≡ Some op
    → Allows (Rule own_shape opening) slots seat me word (put op) (Then named told me)
allowed own_shape shape opening slots seat me named choice told op word same is shaped here own alone offers =
    subst (λ (x : Choice). Allows (Rule own_shape opening) slots seat me word (put op) (Then x told me)) (sym same)
    (subst (λ (o : Op). Allows (Rule own_shape opening) slots seat me word (put op) (Then choice o me)) (sym is)
    (subst (λ (k : ℕ). Allows (Rule own_shape opening) slots seat me k (put op) (Then choice op me)) (sym (here ∙ ap (λ (t : Layout). at t (place_of op)) (sym shaped)))
    (seat_acts own_shape opening slots seat me choice op own alone offers)))

-- a store of this number
pub stores : (own_shape shape : Layout) (opening : Opening) (slots seat : ℕ) (me : Me (Unit {0}) View) (named choice : Choice) (told : Op) (there : Place) (w : Word) (word n : ℕ)
    → named ≡ choice → told ≡ Store there w → me.0.shape ≡ shape → word ≡ at shape there → n ≡ packed w → IsOwn choice → IsAlone me → view_op me.0 choice ≡ Some (Store there w)
    → Allows (Rule own_shape opening) slots seat me word (λ _. n) (λ _. Then named told me n)
stores own_shape shape opening slots seat me named choice told there w word n same is shaped here is_n own alone offers =
    let op : Op = Store there w in
    subst (λ (x : Choice). Allows (Rule own_shape opening) slots seat me word (λ _. n) (λ _. Then x told me n)) (sym same)
    (subst (λ (o : Op). Allows (Rule own_shape opening) slots seat me word (λ _. n) (λ _. Then choice o me n)) (sym is)
    (subst (λ (k : ℕ). Allows (Rule own_shape opening) slots seat me word (λ _. k) (λ _. Then choice op me k)) (sym is_n)
    (subst (λ (k : ℕ). Allows (Rule own_shape opening) slots seat me k (λ _. packed w) (λ _. Then choice op me (packed w))) (sym (here ∙ ap (λ (t : Layout). at t there) (sym shaped)))
    (seat_acts own_shape opening slots seat me choice op own alone offers))))

-- an exchange of these numbers
pub exchanges : (own_shape shape : Layout) (opening : Opening) (slots seat : ℕ) (me : Me (Unit {0}) View) (named choice : Choice) (told : Op) (there : Place) (e w : Word) (word m n : ℕ)
    → named ≡ choice → told ≡ Exchange there e w → me.0.shape ≡ shape → word ≡ at shape there → m ≡ packed e → n ≡ packed w → IsOwn choice → IsAlone me → view_op me.0 choice ≡ Some (Exchange there e w)
    → Allows (Rule own_shape opening) slots seat me word (λ k. either (k == m) n k) (Then named told me)
exchanges own_shape shape opening slots seat me named choice told there e w word m n same is shaped here as_e as_w own alone offers =
    subst (λ (x : ℕ). Allows (Rule own_shape opening) slots seat me word (λ k. either (k == x) n k) (Then named told me)) (sym as_e)
    (subst (λ (x : ℕ). Allows (Rule own_shape opening) slots seat me word (λ k. either (k == packed e) x k) (Then named told me)) (sym as_w)
    (allowed own_shape shape opening slots seat me named choice told (Exchange there e w) word same is shaped here own alone offers))

-- the index is one of the row
pub index_below : (shape : Layout) (op : Op) (word words : ℕ) → IsShape shape → OpFits shape op → word ≡ at shape (place_of op) → words ≡ words_of shape → word < words
index_below shape op word words valid fits here long = let h = at-lt shape (place_of op) valid (fits_place shape op fits) in omega (arith, h, here, long)

-- a word that suits a place has parts that fit
pub suits-parts : (there : Place) (w : Word) → Suits there w → PartsFit w
suits-parts there (word.Plain number) s = tt
suits-parts there (word.Round None) s = tt
suits-parts there (word.Back None) s = tt
suits-parts there (word.Forward slot) s = tt
suits-parts place.Epoch (word.Round (Some round)) s = absurd s
suits-parts place.Round (word.Round (Some round)) s = s
suits-parts (place.Section i) (word.Round (Some round)) s = absurd s
suits-parts (place.Entry c i) (word.Round (Some round)) s = absurd s
suits-parts (place.Directory c i) (word.Round (Some round)) s = absurd s
suits-parts (place.Back c i) (word.Round (Some round)) s = absurd s
suits-parts (place.Forward c i) (word.Round (Some round)) s = absurd s
suits-parts (place.Field c i f) (word.Round (Some round)) s = absurd s
suits-parts place.Epoch (word.Entry state) s = absurd s
suits-parts place.Round (word.Entry state) s = absurd s
suits-parts (place.Section i) (word.Entry state) s = absurd s
suits-parts (place.Entry c i) (word.Entry state) s = s
suits-parts (place.Directory c i) (word.Entry state) s = absurd s
suits-parts (place.Back c i) (word.Entry state) s = absurd s
suits-parts (place.Forward c i) (word.Entry state) s = absurd s
suits-parts (place.Field c i f) (word.Entry state) s = absurd s
suits-parts place.Epoch (word.Directory dir) s = absurd s
suits-parts place.Round (word.Directory dir) s = absurd s
suits-parts (place.Section i) (word.Directory dir) s = absurd s
suits-parts (place.Entry c i) (word.Directory dir) s = absurd s
suits-parts (place.Directory c i) (word.Directory dir) s = s
suits-parts (place.Back c i) (word.Directory dir) s = absurd s
suits-parts (place.Forward c i) (word.Directory dir) s = absurd s
suits-parts (place.Field c i f) (word.Directory dir) s = absurd s
suits-parts place.Epoch (word.Back (Some number)) s = absurd s
suits-parts place.Round (word.Back (Some number)) s = absurd s
suits-parts (place.Section i) (word.Back (Some number)) s = absurd s
suits-parts (place.Entry c i) (word.Back (Some number)) s = absurd s
suits-parts (place.Directory c i) (word.Back (Some number)) s = absurd s
suits-parts (place.Back c i) (word.Back (Some number)) s = s
suits-parts (place.Forward c i) (word.Back (Some number)) s = absurd s
suits-parts (place.Field c i f) (word.Back (Some number)) s = absurd s
