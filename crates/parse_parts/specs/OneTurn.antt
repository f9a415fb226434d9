-- What one turn of a loop takes, behind what was gathered, and what the further turns make of it.
use Rattle.std.specs.Prelude.{suc, not, ◌&&◌, List, [], ◌∷◌, ◌++◌, codes, if◌then◌else◌}
use Rattle.ruby_lexer.specs.Bytes.{Bytes}
use Rattle.ruby_lexer.specs.Pieces.{Toks}
use Rattle.ruby_tree.specs.Tree.{Goal, Tree, Trees, trees_then, Pairs, no_pair, pair, Params, no_param, required, rest_param}
use Rattle.ruby_tree.specs.Rules.{declare, declared, next, DoBlockOwner, own, word, is_mark, goal_at}
use Rattle.ruby_tree.specs.Build.{Given, nothing, one}
use Rattle.ruby_tree.specs.FaultLine.{count_of}
use Rattle.tree_builder.specs.Subtrees.{trees_count, pairs_then, params_then}
use Rattle.reference_parser.specs.Answers.{taken, fault, Parse, ◌>>=◌}
use Rattle.reference_parser.specs.Fronts.{is_name, is_label, more_elements, more_pairs, more_items}
use Rattle.reference_parser.specs.ReadItems.{Readers, Element, with_element, KeyValue, block_params, with_goal, read_element, read_pair, pair_list, read_passed, pairs_from}
use Rattle.parse_parts.specs.Items.{given_then, only_passing}

-- the elements gathered, and one more
abbrev pub given_and : Given → Element → Given
given_and g e = given_then g (with_element e (trees_count g.trees) nothing)

module _ (source : Bytes) where
  unfoldable pub named_param_turn : Params → (Params → Parse Params) → Parse Params
  named_param_turn ps further w s =
      if is_mark source (codes ",") (next w) then further (params_then ps (required (word source w) no_param)) (next (next w)) (declare (word source w) s)
      else taken (params_then ps (required (word source w) no_param)) (next w) (declare (word source w) s)

  unfoldable pub param_turn : Params → (Params → Parse Params) → Parse Params
  param_turn ps further w s =
      if is_name w then named_param_turn ps further w s
      else if is_mark source (codes "*") w && is_name (next w) then taken (params_then ps (rest_param (word source (next w)) no_param)) (next (next w)) (declare (word source (next w)) s)
      else fault

  -- parameters between bars, of which the first one is the first token
  unfoldable pub bars_here : Parse Params
  bars_here w s =
      if is_mark source (codes "|") (next w) then taken no_param (next (next w)) s
      else (block_params source (suc (count_of w)) (next w) s >>= λ ps r z. if is_mark source (codes "|") r then taken ps (next r) z else fault)

  -- one target, behind others
  unfoldable pub one_target : List Goal → Parse (List Goal)
  one_target gs w s = with_goal source (goal_at source w) (λ g. taken (gs ++ g ∷ []) (next w) (declared g s))

  unfoldable pub target_turn : List Goal → (List Goal → Parse (List Goal)) → Parse (List Goal)
  target_turn gs further w s = one_target gs w s >>= λ hs q y.
      if is_mark source (codes ",") q then further hs (next q) y else taken hs q y

  module _ (Q : Readers) where
    unfoldable pub several_turn : DoBlockOwner → Trees → (Trees → Parse Trees) → Parse Trees
    several_turn d ts further w s = Q.arg d w s >>= λ a q y.
        if is_mark source (codes ",") q then further (trees_then ts (one a)) (next q) y else taken (trees_then ts (one a)) q y

    unfoldable pub element_turn : Given → (Given → Parse Given) → Parse Given
    element_turn g further w s = read_element source Q own w s >>= λ e q y.
        if more_elements source q then further (given_and g e) (next q) y else taken (given_and g e) q y

    unfoldable pub pair_turn : DoBlockOwner → Pairs → (Pairs → Parse Pairs) → Parse Pairs
    pair_turn d ps further w s = read_pair source Q d w s >>= λ p q y.
        if more_pairs source q then further (pairs_then ps (pair p.key p.value no_pair)) (next q) y else taken (pairs_then ps (pair p.key p.value no_pair)) q y

    -- a pair, and those that follow it
    unfoldable pub pairs_behind : DoBlockOwner → KeyValue → Parse Pairs
    pairs_behind d p q y =
        if more_pairs source q then (pair_list source Q (suc (count_of q)) d (next q) y >>= λ ps r z. taken (pair p.key p.value ps) r z)
        else taken (pair p.key p.value no_pair) q y

    -- pairs whose first key k begins at o, behind the items that were gathered
    unfoldable pub key_turn : DoBlockOwner → Given → Toks → Tree → Parse Given
    key_turn d g o k q y = Q.arg d (next q) y >>= λ v p x. pairs_from source Q d o (record { key = k; value = v }) p x >>= λ h r z. taken (given_then g h) r z

    unfoldable pub labeled_turn : DoBlockOwner → Given → Parse Given
    labeled_turn d g w s = read_pair source Q d w s >>= λ p q y. pairs_from source Q d w p q y >>= λ h r z. taken (given_then g h) r z

    -- what follows an element that begins at o, behind the items that were gathered
    unfoldable pub behind_turn : DoBlockOwner → Given → (Given → Parse Given) → Toks → Element → Parse Given
    behind_turn d g further o e q y =
        if not e.spread && is_mark source (codes "=>") q then key_turn d g o e.tree q y
        else if more_items source q then further (given_and g e) (next q) y
        else taken (given_and g e) q y

    unfoldable pub item_turn : DoBlockOwner → Given → (Given → Parse Given) → Parse Given
    item_turn d g further w s =
        if is_mark source (codes "&") w then (read_passed source Q d w s >>= λ p r z. taken (given_then g (only_passing p)) r z)
        else if is_label w then labeled_turn d g w s
        else (read_element source Q d w s >>= λ e q y. behind_turn d g further w e q y)
