-- The reader takes what is derived: lists of arguments, and what stands in brackets.
use Rattle.std.proofs.Common.{◌≡◌, ℕ, zero, suc, ◌<◌, ◌≤◌, List, codes, Bool, true, false, ◌&&◌, ◌||◌, Some, refl, sym, ap, ◌∙◌, arith}
use Rattle.std.proofs.lemmas.Bool.{true≢false}
use Rattle.ruby_lexer.specs.Bytes.{Bytes, same, is_in}
use Rattle.ruby_lexer.specs.Pieces.{name, label, Toks}
use Rattle.ruby_tree.specs.Tree.{Goal, Tree, Trees, Other, without, Pairs, Params}
use Rattle.ruby_tree.specs.Rules.{Scope, next, front, is_kind_name, is_kind_label, operand_marks, DoBlockOwner, own, in_arguments, is_mark, begins_arg}
use Rattle.ruby_tree.specs.Build.{Given}
use Rattle.ruby_tree.specs.Grammar.{Rels, BlockParams, Bars, ExceptionName, MoreTargets, Targets, Trailing, Several, Element, Elements, Pair, PairList, Passed, Items, InBrackets, CommandItems, Classes}
use Rattle.ruby_tree.specs.Grammar as g
use Rattle.ruby_tree.specs.FaultLine.{count_of}
use Rattle.reference_parser.specs.Answers.{taken, ◌>>=◌}
use Rattle.reference_parser.specs.Fronts.{is_label, label_by, begins_element, more_elements, more_pairs, more_items, more_passed}
use Rattle.reference_parser.specs.ReadItems.{Readers, with_pairs, no_passing, block_params, read_bars, exception_name, with_goal, more_targets, read_targets, closed, several, read_several, read_element, elements, pair_by, read_pair, pair_list, read_passed, end_pairs, pairs_from, items_from, items, read_items, in_brackets, command_items, read_classes}
use Rattle.reference_laws.proofs.Promises.{Knows, Known, Shorters, Firsts}
use Rattle.reference_parser.proofs.Tests.{and_true, left_false, right_false, neither, by_test, next_le, next_less, mark_kind, other_mark, kind_no_mark}
use Rattle.reference_laws.proofs.Begins.{arg_not_mark, arg_not_label, mark_no_item, mark_no_element, mark_no_pair, item_not_mark}
use Rattle.reference_laws.proofs.Shorter.{shorter_element, shorter_pair}
use Rattle.reference_laws.proofs.First.{first_several, first_elements, first_pair_list, first_passed, first_items}

pairs_among : (c a b l p : Bool) → (c && (a || b || l || p)) ≡ false → (c && (a || l)) ≡ false
pairs_among false a b l p h = refl
pairs_among true true b l p h = h
pairs_among true false true l p h = absurd (true≢false h)
pairs_among true false false true p h = h
pairs_among true false false false p h = refl

passed_among : (c a p : Bool) → (c && (a || p)) ≡ false → (c && p) ≡ false
passed_among false a p h = refl
passed_among true true p h = absurd (true≢false h)
passed_among true false p h = h

module _ (source : Bytes) where
  -- a name is no mark
  name_no_mark : (f : Bytes) (w : Toks) → front w ≡ Some name → is_mark source f w ≡ false
  name_no_mark f w e = kind_no_mark source f w name e refl

  -- Up to a comma the list goes on, and each parameter takes a token.
  pub known_block_params : (m : ℕ) (w : Toks) (s : Scope) (ps : Params) (r : Toks) (z : Scope) → BlockParams source w s ps r z → is_mark source (codes ",") r ≡ false → count_of w < m → block_params source m w s ≡ taken ps r z
  unfolding ◌>>=◌ block_params
  known_block_params zero w s ps r z h far room = absurd (omega arith)
  known_block_params (suc m) w s ps r z (g.BlockParams.last e) far room = rw (ap is_kind_name e, far)
  known_block_params (suc m) w s ps r z (g.BlockParams.another e c h) far room =
      rw (ap is_kind_name e, c, known_block_params m _ _ _ _ _ h far (omega (arith, next_less w name e, next_le (next w))))
  known_block_params (suc m) w s ps r z (g.BlockParams.rest a e) far room = rw (ap is_kind_name (mark_kind source (codes "*") w a), and_true _ _ a (ap is_kind_name e))

  pub known_bars : Knows (Bars source) (read_bars source)
  unfolding ◌>>=◌ read_bars
  known_bars w s ps r z (g.Bars.missing n) = rw n
  known_bars w s ps r z (g.Bars.empty a b) = rw (a, b)
  known_bars w s ps r z (g.Bars.given {r = q} a h b) =
      rw (a, no_bar _ _ _ _ _ h, known_block_params (suc (count_of w)) _ _ _ _ _ h (other_mark source (codes "|") (codes ",") q b refl) (omega (arith, next_le w)), b)
    where
      no_bar : (v : Toks) (s : Scope) (ps : Params) (r : Toks) (z : Scope) → BlockParams source v s ps r z → is_mark source (codes "|") v ≡ false
      no_bar v s ps r z (g.BlockParams.last e) = name_no_mark (codes "|") v e
      no_bar v s ps r z (g.BlockParams.another e c h) = name_no_mark (codes "|") v e
      no_bar v s ps r z (g.BlockParams.rest a e) = other_mark source (codes "*") (codes "|") v a refl

  pub known_exception_name : Knows (ExceptionName source) (exception_name source)
  unfolding exception_name
  known_exception_name w s x r z (g.ExceptionName.missing n) = rw n
  known_exception_name w s x r z (g.ExceptionName.given a e) = rw (a, ap is_kind_name e)

  pub known_more_targets : (m : ℕ) (w : Toks) (s : Scope) (gs : List Goal) (r : Toks) (z : Scope) → MoreTargets source w s gs r z → is_mark source (codes ",") r ≡ false → count_of w < m → more_targets source m w s ≡ taken gs r z
  unfolding ◌>>=◌ more_targets with_goal
  known_more_targets zero w s gs r z h far room = absurd (omega arith)
  known_more_targets (suc m) w s gs r z (g.MoreTargets.last e) far room = rw (e, far)
  known_more_targets (suc m) w s gs r z (g.MoreTargets.another e c h) far room =
      rw (e, c, known_more_targets m _ _ _ _ _ h far (omega (arith, next_le w, next_less (next w) _ (mark_kind source (codes ",") (next w) c))))

  pub known_targets : (w : Toks) (s : Scope) (gs : List Goal) (r : Toks) (z : Scope) → Targets source w s gs r z → is_mark source (codes ",") r ≡ false → read_targets source w s ≡ taken gs r z
  unfolding ◌>>=◌ read_targets with_goal
  known_targets w s gs r z (g.Targets.several e c h) far = rw (e, c, known_more_targets (suc (count_of w)) _ _ _ _ _ h far (omega (arith, next_le w, next_le (next w))))

  -- behind a list stand a comma or none, and its bracket
  pub known_closed : {A : Type 0} (f : Bytes) (a : A) (w r : Toks) (s : Scope) → Trailing source w r → is_mark source f r ≡ true → same (codes ",") f ≡ false → closed source f a w s ≡ taken a (next r) s
  unfolding closed
  known_closed f a w r s (g.Trailing.comma c) e n = rw (c, e)
  known_closed f a w r s g.Trailing.no_comma e n = rw (other_mark source f (codes ",") w e n, e)

  -- what begins a pair, or is passed, begins an item
  items_no_pairs : (w : Toks) → more_items source w ≡ false → more_pairs source w ≡ false
  items_no_pairs w h = pairs_among (is_mark source (codes ",") w) (begins_arg source (next w)) (is_mark source (codes "*") (next w)) (is_label (next w)) (is_mark source (codes "&") (next w)) h

  items_no_passed : (w : Toks) → more_items source w ≡ false → more_passed source w ≡ false
  items_no_passed w h = passed_among (is_mark source (codes ",") w) (begins_element source (next w) || is_label (next w)) (is_mark source (codes "&") (next w)) h

  -- behind a list stand a comma or none, and a bracket: it does not go on
  pub no_more_items : (f : Bytes) (q r : Toks) → Trailing source q r → is_mark source f r ≡ true → (is_in f operand_marks || same (codes "*") f || same (codes "&") f || same (codes ",") f) ≡ false → more_items source q ≡ false
  no_more_items f q r (g.Trailing.comma c) e n =
      let parts = neither _ _ (neither _ _ n).0 in
      right_false _ _ (mark_no_item source f (next q) e (neither _ _ parts.0).0 (neither _ _ parts.0).1 parts.1)
  no_more_items f q r g.Trailing.no_comma e n = left_false _ _ (other_mark source f (codes ",") q e (neither _ _ n).1)

  pub no_more_elements : (f : Bytes) (q r : Toks) → Trailing source q r → is_mark source f r ≡ true → (is_in f operand_marks || same (codes "*") f || same (codes ",") f) ≡ false → more_elements source q ≡ false
  no_more_elements f q r (g.Trailing.comma c) e n = let parts = neither _ _ (neither _ _ n).0 in right_false _ _ (mark_no_element source f (next q) e parts.0 parts.1)
  no_more_elements f q r g.Trailing.no_comma e n = left_false _ _ (other_mark source f (codes ",") q e (neither _ _ n).1)

  pub no_more_pairs : (f : Bytes) (q r : Toks) → Trailing source q r → is_mark source f r ≡ true → (is_in f operand_marks || same (codes ",") f) ≡ false → more_pairs source q ≡ false
  no_more_pairs f q r (g.Trailing.comma c) e n = right_false _ _ (mark_no_pair source f (next q) e (neither _ _ n).0)
  no_more_pairs f q r g.Trailing.no_comma e n = left_false _ _ (other_mark source f (codes ",") q e (neither _ _ n).1)

  module _ (R : Rels) (Q : Readers) (F : Firsts source R) (S : Shorters R) (K : Known R Q) where
    pub known_several_in : (m : ℕ) (d : DoBlockOwner) (w : Toks) (s : Scope) (ts : Trees) (r : Toks) (z : Scope) → Several source R d w s ts r z → count_of w < m → several source Q m d w s ≡ taken ts r z
    unfolding ◌>>=◌ several
    known_several_in zero d w s ts r z h room = absurd (omega arith)
    known_several_in (suc m) d w s ts r z (g.Several.last h n) room = rw (K.arg d _ _ _ _ _ h, n)
    known_several_in (suc m) d w s ts r z (g.Several.another {q = q} h c l) room =
        rw (K.arg d _ _ _ _ _ h, c, known_several_in m d _ _ _ _ _ l (omega (arith, S.arg d _ _ _ _ _ h, next_le q)))

    pub known_several : (d : DoBlockOwner) → Knows (Several source R d) (read_several source Q d)
    unfolding read_several
    known_several d w s ts r z h = known_several_in (suc (count_of w)) d w s ts r z h (omega arith)

    -- an argument begins with neither `*` nor `&`, nor is it a label
    no_star : (d : DoBlockOwner) (w : Toks) (s : Scope) (t : Tree) (r : Toks) (z : Scope) → R.arg d w s t r z → is_mark source (codes "*") w ≡ false
    no_star d w s t r z h = arg_not_mark source (codes "*") w (F.arg d _ _ _ _ _ h).begins refl

    pub known_element : (d : DoBlockOwner) (b : Bool) (w : Toks) (s : Scope) (t : Tree) (r : Toks) (z : Scope) → Element source R d b w s t r z → read_element source Q d w s ≡ taken (record { spread = b; tree = t }) r z
    unfolding ◌>>=◌ read_element
    known_element d b w s t r z (g.Element.plain h) = rw (no_star d _ _ _ _ _ h, K.arg d _ _ _ _ _ h)
    known_element d b w s t r z (g.Element.spread m h) = rw (m, K.arg d _ _ _ _ _ h)

    pub known_elements : (m k : ℕ) (w : Toks) (s : Scope) (ts : Trees) (ks : List ℕ) (r : Toks) (z : Scope) → Elements source R own k w s ts ks r z → more_elements source r ≡ false → count_of w < m
        → elements source Q m k w s ≡ taken (record { trees = ts; spread = ks; value = without; block = without }) r z
    unfolding ◌>>=◌ elements
    known_elements zero k w s ts ks r z h far room = absurd (omega arith)
    known_elements (suc m) k w s ts ks r z (g.Elements.last h) far room = rw (known_element own _ _ _ _ _ _ h, far)
    known_elements (suc m) k w s ts ks r z (g.Elements.another {q = q} h c l) far room =
        rw (known_element own _ _ _ _ _ _ h, and_true _ _ c (first_elements source R F own _ _ _ _ _ _ _ l), known_elements m (suc k) _ _ _ _ _ _ l far (omega (arith, shorter_element source R S own _ _ _ _ _ _ h, next_le q)))

    pub known_pair : (d : DoBlockOwner) (w : Toks) (s : Scope) (t u : Tree) (r : Toks) (z : Scope) → Pair source R d w s t u r z → read_pair source Q d w s ≡ taken (record { key = t; value = u }) r z
    unfolding ◌>>=◌ read_pair pair_by
    known_pair d w s t u r z (g.Pair.label e p h) = rw (ap is_kind_label e, ap label_by e ∙ p, K.arg d _ _ _ _ _ h)
    known_pair d w s t u r z (g.Pair.arrow h m v) = rw (arg_not_label source w (F.arg d _ _ _ _ _ h).begins, K.arg d _ _ _ _ _ h, m, K.arg d _ _ _ _ _ v)

    pub known_pair_list : (m : ℕ) (d : DoBlockOwner) (w : Toks) (s : Scope) (ps : Pairs) (r : Toks) (z : Scope) → PairList source R d w s ps r z → more_pairs source r ≡ false → count_of w < m → pair_list source Q m d w s ≡ taken ps r z
    unfolding ◌>>=◌ pair_list
    known_pair_list zero d w s ps r z h far room = absurd (omega arith)
    known_pair_list (suc m) d w s ps r z (g.PairList.last h) far room = rw (known_pair d _ _ _ _ _ _ h, far)
    known_pair_list (suc m) d w s ps r z (g.PairList.another {q = q} h c l) far room =
        rw (known_pair d _ _ _ _ _ _ h, and_true _ _ c (first_pair_list source R F d _ _ _ _ _ l), known_pair_list m d _ _ _ _ _ l far (omega (arith, shorter_pair source R S d _ _ _ _ _ _ h, next_le q)))

    pub known_passed : (d : DoBlockOwner) (w : Toks) (s : Scope) (v b : Other) (r : Toks) (z : Scope) → Passed source R d w s v b r z → read_passed source Q d w s ≡ taken (record { value = v; block = b }) r z
    unfolding ◌>>=◌ read_passed
    known_passed d w s v b r z (g.Passed.value m h e) = rw (K.arg d _ _ _ _ _ h, e)
    known_passed d w s v b r z (g.Passed.named m h e) = rw (K.arg d _ _ _ _ _ h, e)

    -- Behind a pair, which begins at w: the others, and what is passed.
    pub known_end_pairs : (d : DoBlockOwner) (w : Toks) (ps : Pairs) (q : Toks) (y : Scope) → more_passed source q ≡ false → end_pairs source Q d w ps q y ≡ taken (with_pairs w ps no_passing) q y
    unfolding end_pairs
    known_end_pairs d w ps q y far = rw far

    pub known_end_passed : (d : DoBlockOwner) (w : Toks) (ps : Pairs) (q : Toks) (y : Scope) (v b : Other) (r : Toks) (z : Scope) → is_mark source (codes ",") q ≡ true → Passed source R d (next q) y v b r z
        → end_pairs source Q d w ps q y ≡ taken (with_pairs w ps (record { value = v; block = b })) r z
    unfolding ◌>>=◌ end_pairs
    known_end_passed d w ps q y v b r z c h = rw (and_true _ _ c (first_passed source R F d _ _ _ _ _ _ h), known_passed d _ _ _ _ _ _ h)

    -- the first pair of a list, and what is read behind it
    record Pairing (d : DoBlockOwner) (w : Toks) (s : Scope) (ps : Pairs) (r : Toks) (z : Scope) : Type 0 where
      key : Tree
      value : Tree
      end : Toks
      scope : Scope
      first : Pair source R d w s key value end scope
      rest : pairs_from source Q d w (record { key = key; value = value }) end scope ≡ end_pairs source Q d w ps r z

    pairing : (d : DoBlockOwner) (w : Toks) (s : Scope) (ps : Pairs) (r : Toks) (z : Scope) → PairList source R d w s ps r z → more_pairs source r ≡ false → Pairing d w s ps r z
    unfolding ◌>>=◌ pairs_from
    pairing d w s ps r z (g.PairList.last h) far = record { key = _; value = _; end = r; scope = z; first = h; rest = rw far }
    pairing d w s ps r z (g.PairList.another {q = q} {y = y} h c l) far = record {
      key = _;
      value = _;
      end = q;
      scope = y;
      first = h;
      rest = rw (and_true _ _ c (first_pair_list source R F d _ _ _ _ _ l), known_pair_list (suc (count_of q)) d _ _ _ _ _ l far (omega (arith, next_le q)));
    }

    -- Items that begin with an argument: it, and what is read behind it. It ends where they end, or before a comma or an arrow.
    pub record ByArgument (m : ℕ) (d : DoBlockOwner) (k : ℕ) (w : Toks) (s : Scope) (i : Given) (r : Toks) (z : Scope) : Type 0 where
      pub tree : Tree
      pub end : Toks
      pub scope : Scope
      pub first : R.arg d w s tree end scope
      pub rest : items_from source Q (items source Q m d (suc k)) d k w (record { spread = false; tree = tree }) end scope ≡ taken i r z
      pub ends : (f : Bytes) → same (codes ",") f ≡ false → same (codes "=>") f ≡ false → is_mark source f end ≡ true → end ≡ r

    -- items read with one turn less
    abbrev Further : ℕ → DoBlockOwner → ℕ → Type 0
    Further m d k = (w : Toks) (s : Scope) (i : Given) (r : Toks) (z : Scope) → Items source R d k w s i r z → more_items source r ≡ false → count_of w < m → items source Q m d k w s ≡ taken i r z

    by_pair : (m : ℕ) (d : DoBlockOwner) (k : ℕ) (w : Toks) (s : Scope) (t u : Tree) (q : Toks) (y : Scope) (i : Given) (r : Toks) (z : Scope) → Pair source R d w s t u q y → pairs_from source Q d w (record { key = t; value = u }) q y ≡ taken i r z → begins_arg source w ≡ true → ByArgument m d k w s i r z
    unfolding ◌>>=◌ items_from
    by_pair m d k w s t u q y i r z (g.Pair.label e p h) is b = absurd (true≢false (sym (ap is_kind_label e) ∙ arg_not_label source w b))
    by_pair m d k w s t u q y i r z (g.Pair.arrow {q = p} {y = x} h e v) is b = record {
      tree = t;
      end = p;
      scope = x;
      first = h;
      rest = rw (e, K.arg d _ _ _ _ _ v) is;
      ends = λ f c a o. absurd (true≢false (sym e ∙ other_mark source f (codes "=>") p o a));
    }

    no_amp_arg : (w : Toks) → begins_arg source w ≡ true → is_mark source (codes "&") w ≡ false
    no_amp_arg w h = arg_not_mark source (codes "&") w h refl

    -- behind a list of pairs nothing is passed, or this is
    no_pair_behind : (d : DoBlockOwner) (q : Toks) (y : Scope) (v b : Other) (r : Toks) (z : Scope) → Passed source R d (next q) y v b r z → more_pairs source q ≡ false
    no_pair_behind d q y v b r z h = right_false _ _ (mark_no_pair source (codes "&") (next q) (first_passed source R F d _ _ _ _ _ _ h) refl)

    by_argument : (m : ℕ) (d : DoBlockOwner) (k : ℕ) (further : Further m d (suc k)) (w : Toks) (s : Scope) (i : Given) (r : Toks) (z : Scope) → Items source R d k w s i r z → more_items source r ≡ false → count_of w ≤ m → begins_arg source w ≡ true → ByArgument m d k w s i r z
    unfolding ◌>>=◌ items_from
    by_argument m d k further w s i r z (g.Items.element (g.Element.plain h) n) far room b = record { tree = _; end = r; scope = z; first = h; rest = rw (n, far); ends = λ f c a o. refl }
    by_argument m d k further w s i r z (g.Items.element (g.Element.spread e h) n) far room b = absurd (true≢false (sym e ∙ arg_not_mark source (codes "*") w b refl))
    by_argument m d k further w s i r z (g.Items.another {q = q} {y = y} (g.Element.plain h) c l) far room b = record {
      tree = _;
      end = q;
      scope = y;
      first = h;
      rest = rw (other_mark source (codes ",") (codes "=>") q c refl, and_true _ _ c (first_items source R F d _ _ _ _ _ _ l), further _ _ _ _ _ l far (omega (arith, S.arg d _ _ _ _ _ h, next_le q)));
      ends = λ f n a o. absurd (true≢false (sym c ∙ other_mark source f (codes ",") q o n));
    }
    by_argument m d k further w s i r z (g.Items.another (g.Element.spread e h) c l) far room b = absurd (true≢false (sym e ∙ arg_not_mark source (codes "*") w b refl))
    by_argument m d k further w s i r z (g.Items.pairs h) far room b =
        let p = pairing d _ _ _ _ _ h (items_no_pairs r far) in
        by_pair m d k w s p.key p.value p.end p.scope i r z p.first (p.rest ∙ known_end_pairs d w _ r z (items_no_passed r far)) b
    by_argument m d k further w s i r z (g.Items.pairs_and_passed {q = q} {y = y} h c a) far room b =
        let p = pairing d _ _ _ _ _ h (no_pair_behind d q _ _ _ _ _ a) in
        by_pair m d k w s p.key p.value p.end p.scope i r z p.first (p.rest ∙ known_end_passed d w _ q y _ _ r z c a) b
    by_argument m d k further w s i r z (g.Items.passed h) far room b = absurd (true≢false (sym (first_passed source R F d _ _ _ _ _ _ h) ∙ no_amp_arg w b))

    at_argument : (m : ℕ) (d : DoBlockOwner) (k : ℕ) (w : Toks) (s : Scope) (i : Given) (r : Toks) (z : Scope) → begins_arg source w ≡ true → ByArgument m d k w s i r z → items source Q (suc m) d k w s ≡ taken i r z
    unfolding ◌>>=◌ items read_element
    at_argument m d k w s i r z b a = rw (no_amp_arg w b, arg_not_label source w b, arg_not_mark source (codes "*") w b refl, K.arg d _ _ _ _ _ a.first) a.rest

    at_label : (m : ℕ) (d : DoBlockOwner) (k : ℕ) (w : Toks) (s : Scope) (t u : Tree) (q : Toks) (y : Scope) (i : Given) (r : Toks) (z : Scope) → Pair source R d w s t u q y → pairs_from source Q d w (record { key = t; value = u }) q y ≡ taken i r z → begins_arg source w ≡ false → items source Q (suc m) d k w s ≡ taken i r z
    unfolding ◌>>=◌ items
    at_label m d k w s t u q y i r z (g.Pair.arrow h e v) is b = absurd (true≢false (sym (F.arg d _ _ _ _ _ h).begins ∙ b))
    at_label m d k w s t u q y i r z (g.Pair.label e p h) is b = rw (kind_no_mark source (codes "&") w (label _) e refl, ap is_kind_label e, known_pair d _ _ _ _ _ _ (g.Pair.label e p h)) is

    at_another : (m : ℕ) (d : DoBlockOwner) (k : ℕ) (further : Further m d (suc k)) (w : Toks) (s : Scope) (i : Given) (r : Toks) (z : Scope) → Items source R d k w s i r z → more_items source r ≡ false → count_of w ≤ m → begins_arg source w ≡ false → items source Q (suc m) d k w s ≡ taken i r z
    unfolding ◌>>=◌ items items_from
    at_another m d k further w s i r z (g.Items.element (g.Element.plain h) n) far room b = absurd (true≢false (sym (F.arg d _ _ _ _ _ h).begins ∙ b))
    at_another m d k further w s i r z (g.Items.element (g.Element.spread e h) n) far room b =
        rw (other_mark source (codes "*") (codes "&") w e refl, ap is_kind_label (mark_kind source (codes "*") w e), known_element d _ _ _ _ _ _ (g.Element.spread e h), far)
    at_another m d k further w s i r z (g.Items.another (g.Element.plain h) c l) far room b = absurd (true≢false (sym (F.arg d _ _ _ _ _ h).begins ∙ b))
    at_another m d k further w s i r z (g.Items.another {q = q} (g.Element.spread e h) c l) far room b =
        rw (other_mark source (codes "*") (codes "&") w e refl, ap is_kind_label (mark_kind source (codes "*") w e), known_element d _ _ _ _ _ _ (g.Element.spread e h), and_true _ _ c (first_items source R F d _ _ _ _ _ _ l), further _ _ _ _ _ l far (omega (arith, S.arg d _ _ _ _ _ h, next_le w, next_le q)))
    at_another m d k further w s i r z (g.Items.pairs h) far room b =
        let p = pairing d _ _ _ _ _ h (items_no_pairs r far) in
        at_label m d k w s p.key p.value p.end p.scope i r z p.first (p.rest ∙ known_end_pairs d w _ r z (items_no_passed r far)) b
    at_another m d k further w s i r z (g.Items.pairs_and_passed {q = q} {y = y} h c a) far room b =
        let p = pairing d _ _ _ _ _ h (no_pair_behind d q _ _ _ _ _ a) in
        at_label m d k w s p.key p.value p.end p.scope i r z p.first (p.rest ∙ known_end_passed d w _ q y _ _ r z c a) b
    at_another m d k further w s i r z (g.Items.passed h) far room b = rw (first_passed source R F d _ _ _ _ _ _ h, known_passed d _ _ _ _ _ _ h)

    pub known_items : (m : ℕ) (d : DoBlockOwner) (k : ℕ) (w : Toks) (s : Scope) (i : Given) (r : Toks) (z : Scope) → Items source R d k w s i r z → more_items source r ≡ false → count_of w < m → items source Q m d k w s ≡ taken i r z
    known_items zero d k w s i r z h far room = absurd (omega arith)
    known_items (suc m) d k w s i r z h far room =
        let further = known_items m d (suc k) in
        by_test (begins_arg source w)
        (λ b. at_argument m d k w s i r z b (by_argument m d k further w s i r z h far (omega arith) b))
        (λ b. at_another m d k further w s i r z h far (omega arith) b)

    -- the argument with which items begin, and what is read behind it
    pub known_by_argument : (m : ℕ) (d : DoBlockOwner) (k : ℕ) (w : Toks) (s : Scope) (i : Given) (r : Toks) (z : Scope) → Items source R d k w s i r z → more_items source r ≡ false → count_of w ≤ m → begins_arg source w ≡ true → ByArgument m d k w s i r z
    known_by_argument m d k = by_argument m d k (known_items m d (suc k))

    pub known_read_items : (d : DoBlockOwner) (w : Toks) (s : Scope) (i : Given) (r : Toks) (z : Scope) → Items source R d 0 w s i r z → more_items source r ≡ false → read_items source Q d w s ≡ taken i r z
    unfolding read_items
    known_read_items d w s i r z h far = known_items (suc (count_of w)) d 0 w s i r z h far (omega arith)

    pub known_in_brackets : Knows (InBrackets source R) (in_brackets source Q)
    unfolding ◌>>=◌ in_brackets
    known_in_brackets w s i r z (g.InBrackets.empty e c) = rw c
    known_in_brackets w s i r z (g.InBrackets.full {q = q} {r = p} e h t c) =
        rw (item_not_mark source (codes ")") (next w) (first_items source R F own _ _ _ _ _ _ h) refl refl refl, known_read_items own _ _ _ _ _ h (no_more_items (codes ")") q p t c refl)) (known_closed (codes ")") i q p z t c refl)

    pub known_command_items : (d : DoBlockOwner) → Knows (CommandItems source R d) (command_items source Q d)
    unfolding ◌>>=◌ command_items
    known_command_items d w s i r z (g.CommandItems.items h c) = rw (known_read_items (in_arguments d) _ _ _ _ _ h (left_false _ _ c), c)

    pub known_classes : (d : DoBlockOwner) → Knows (Classes source R d) (read_classes source Q d)
    unfolding read_classes
    known_classes d w s ts r z (g.Classes.missing n) = rw n
    known_classes d w s ts r z (g.Classes.given h) = rw (first_several source R F d _ _ _ _ _ h) (known_several d _ _ _ _ _ h)
