-- The output column that a path spells, by what was found of it.
use Rattle.std.proofs.Common.{◌≡◌, ℕ, ◌+◌, List, length, map, Option, Some, None, sym, ap, ◌∙◌}
use Rattle.std.specs.List.{position}
use Rattle.std.specs.Option.{option_map, option_or}
use Rattle.std.proofs.lemmas.List.{length-map}
use Rattle.smc_query.specs.Trees.{PathTree, ItemTree, path_tree, item_tree}
use Rattle.smc_query.specs.declared.path.Path.{Path}
use Rattle.smc_query.specs.declared.query.Item.{Item}
use Rattle.smc_plan.specs.Orders.{by_place, label_place, key_column, same_path, spells}
use Rattle.smc_plan.proofs.MapLaws.{position-map}

module _ (by : List Path) (items : List Item) (path : PathTree) where
  -- the place among the paths
  by-is : (found : Option ℕ) → found ≡ position (λ other. same_path (path_tree other) path) by → by_place (map path_tree by) path ≡ found
  by-is found is = position-map (λ (other : PathTree). same_path other path) path_tree by ∙ sym is

  -- the place among the labels
  label-is : (found : Option ℕ) → found ≡ position (λ item. spells path item.label) items → label_place (map item_tree items) path ≡ found
  label-is found is = position-map (λ (item : ItemTree). spells path item.label) item_tree items ∙ sym is

  -- a `by` path comes first
  pub key-by : (place : ℕ) → Some place ≡ position (λ other. same_path (path_tree other) path) by → Some place ≡ key_column (map path_tree by) (map item_tree items) path
  key-by place is = sym (ap (λ found. option_or found (option_map (λ behind. length (map path_tree by) + behind) (label_place (map item_tree items) path))) (by-is (Some place) is))

  -- then a label, behind the columns of the paths
  pub key-label : (found : Option ℕ) → None ≡ position (λ other. same_path (path_tree other) path) by → found ≡ position (λ item. spells path item.label) items
      → option_map (λ behind. length by + behind) found ≡ key_column (map path_tree by) (map item_tree items) path
  key-label found none is =
      sym (ap (λ first. option_or first (option_map (λ behind. length (map path_tree by) + behind) (label_place (map item_tree items) path))) (by-is None none)
      ∙ ap (λ second. option_map (λ behind. length (map path_tree by) + behind) second) (label-is found is)
      ∙ ap (λ columns. option_map (λ behind. columns + behind) found) (length-map by path_tree))
