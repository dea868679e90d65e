-- The rules hold of a region that begins without objects.
use Rattle.std.proofs.Common.{◌≡◌, true, false, Option, None, refl, subst, arith}
use Rattle.smc_words.specs.declared.number.Number.{Number}
use Rattle.std.specs.FinMap.{get-empty}
use Rattle.std.specs.Option.{option_map_or}
use Rattle.smc_words.specs.Number.{number_cmp}
use Rattle.smc_model.specs.declared.object.Object.{Object}
use Rattle.smc_shape.specs.Layout.{Layout}
use Rattle.smc_model.specs.World.{Present, object_of, empty_world}
use Rattle.smc_core.specs.declared.local.Opening.{Opening}
use Rattle.smc_core.specs.Machine.{IsOpening}
use Rattle.smc_rules.specs.EpochAgreement.{EpochAgreement}
use Rattle.smc_rules.specs.EpochRule.{EpochRule}
use Rattle.smc_rules.specs.RelocationRule.{RelocationRule}
use Rattle.smc_rules.specs.SlotRule.{SlotRule}
use Rattle.smc_rules.specs.State.{first_state}

module _ (shape : Layout) (opening : Opening) (o : IsOpening opening) where
  none : (number : Number) → object_of empty_world number ≡ None
  none number = get-empty number_cmp number

  absent : (number : Number) → Present empty_world number → ⊥
  absent number there =
      let is : option_map_or (λ (object : Object). object.present) None false ≡ true = subst (λ (found : Option Object). option_map_or (λ (object : Object). object.present) found false ≡ true) (none number) there in cc

  -- no pass is in a section, and none advances
  pub epoch-first : EpochRule shape (first_state shape opening)
  epoch-first = record {
    first = o.first;
    last = o.last;
    advance = λ pass from within is. cc;
    loaded = λ pass seen within is. cc;
    again = λ pass seen own within is. cc;
    near = λ pass own within is. cc;
    passed = λ pass own other from lp lo is at loaded. cc;
  }

  pub epoch_agreement-first : EpochAgreement shape (first_state shape opening)
  epoch_agreement-first = record {
    own_word = λ pass within. refl;
    least_load = λ pass seen within is. cc;
    least_own = λ pass own within is. cc;
    low_advance = λ pass from within is. cc;
    next_pass = λ pass from other within is. cc;
  }

  -- no slot is in use, and no number was given
  pub slot-first : SlotRule shape opening (first_state shape opening)
  slot-first = record {
    slot_claim = λ coll slot lt is. absurd (cc);
    entry_claim = λ coll entry incarnation lt is. absurd (cc);
    slot_owed = λ slot a b la lb owes. absurd (cc);
    one_claim = λ coll entry a b la lb claims. absurd (let none = claims.1 in cc);
    entry_owed = λ coll entry a b la lb owes. absurd (let none = owes.1 in cc);
    stored = λ pass lt. tt;
    sources = λ pass moves lt is. absurd (cc);
    targets = λ pass moves lt is. absurd (cc);
    numbers = λ number lt. (λ some. absurd (let e = none number in cc), λ given. absurd (let a = given.0 in let b = given.1 in omega arith));
    no_others = λ number past. none number;
    present = λ number lt. (λ there. absurd (absent number there), λ has. absurd (cc));
    home = λ number slot lt has. absurd (cc);
    slot_stamp = λ coll slot stamp lt is. absurd (cc);
    entry_stamp = λ coll entry incarnation stamp lt is. grind (arith, is);
  }

  -- nothing moves
  pub relocation-first : RelocationRule shape (first_state shape opening)
  relocation-first = record {
    calm_bound = λ pass own round lt is at. absurd (cc);
    round_owner = record {
      names = record { owner = λ round is. absurd (cc); only = λ round pass owned is lt owns. absurd (cc) };
      no_round = λ coll slot lt is incoming. cc;
      of_its_coll = λ round coll slot lt is incoming. absurd (cc);
      none_while_it_counts = λ round slot lt is counts incoming. cc;
      none_passed = λ round slot lt is incoming. absurd (cc);
      no_object_yet = λ round number slot lt is incoming has. absurd (cc);
    };
    frozen_move = λ coll entry incarnation slot lt is. absurd (cc);
    locked_move = λ coll entry incarnation slot lt is. absurd (cc);
    held_place = λ pass slot number lt is. absurd (cc);
    copying = λ pass c lt is. absurd (cc);
    swung_source = record {
      valid = λ pass coll slot next lt is swung. absurd (cc);
      unheld = λ pass coll slot next lt is swung other number lo same held. cc;
    };
    passed_target = λ pass incarnation entry slot target begun round lt among. absurd (let below = among.1 in omega arith);
  }
