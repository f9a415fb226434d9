-- Lines behind lines.
use Rattle.std.proofs.Common.{◌≡◌, ℕ, zero, suc, ◌+◌, ◌-◌, ◌<◌, ◌≤◌, Bool, true, false, ◌&&◌, cond, List, [], ◌∷◌, ◌++◌, length, Option, Some, None, refl, sym, ap, subst, ◌∙◌, arith, length-append, append_assoc, append-nil}
use Rattle.std.specs.Prelude.{replicate, nat_le, nat_lt}
use Rattle.std.proofs.lemmas.Bool.{false≢true, leb-true, le-leb, ltb-true, lt-ltb}
use Rattle.std.proofs.lemmas.List.{length-replicate}
use Rattle.ruby_tree.specs.declared.node.Node.{Node}
use Rattle.ruby_tree.specs.declared.node.Node.TheViews.{out-Node}
use Rattle.ruby_tree.specs.Names.{Texts}
use Rattle.ruby_tree.specs.Read.{tree_of}
use Rattle.ruby_tree.specs.Tree.{Tree, Trees, no_more, more}
use Rattle.ruby_tree.proofs.Opened.{tree_of-is}
use Rattle.small_form.specs.declared.TheConstants.{LINE_LIMIT}
use Rattle.small_form.specs.declared.tree.Line.{Line}
use Rattle.small_form.specs.declared.tree.Line.TheVariants as line
use Rattle.small_form.specs.SmallForm.{Names, behind, first_line, is_next, line_of, lines_from, names_after, put_line, IsPushed}

abbrev pub empties : ℕ → List Line
empties n = replicate n line.Empty

behind-behind : (before next : List Line) (lines : Option (List Line)) → behind before (behind next lines) ≡ behind (before ++ next) lines
behind-behind before next None = refl
behind-behind before next (Some lines) = ap Some (sym (append_assoc before next lines))

pub behind-nothing : (lines : Option (List Line)) → behind [] lines ≡ lines
behind-nothing None = refl
behind-nothing (Some lines) = refl

-- one more empty line
pub empties_more : (lines : List Line) (number : ℕ) → length lines + 1 < number → (lines ++ line.Empty ∷ []) ++ empties (number - suc (length (lines ++ line.Empty ∷ []))) ≡ lines ++ empties (number - suc (length lines))
empties_more lines number lt =
    let count : number - suc (length lines) ≡ suc (number - suc (length (lines ++ line.Empty ∷ []))) = omega (arith, lt, length-append lines (line.Empty ∷ [])) in
    append_assoc lines (line.Empty ∷ []) (empties (number - suc (length (lines ++ line.Empty ∷ [])))) ∙ ap (λ n. lines ++ empties n) (sym count)

-- no more of them
pub empties_none : (lines : List Line) (number : ℕ) → number ≤ length lines + 1 → lines ++ empties (number - suc (length lines)) ≡ lines ++ []
empties_none lines number le = let none : number - suc (length lines) ≡ 0 = omega (arith, le) in ap (λ n. lines ++ empties n) none

both : (b c : Bool) → b ≡ true → c ≡ true → (b && c) ≡ true
both true c e f = f
both false c e f = absurd cc

both_parts : (b c : Bool) → (b && c) ≡ true → (b ≡ true) × (c ≡ true)
both_parts true c e = (refl, e)
both_parts false c e = absurd cc

chosen : {A : Type 0} (b : Bool) (o p : A) → b ≡ true → cond b o p ≡ o
chosen true o p e = refl
chosen false o p e = absurd cc

-- where a test fails there are no lines
off : (lines : List Line) (b : Bool) (o : Option (List Line)) → (b ≡ true → ⊥) → behind lines (cond b o None) ≡ None
off lines true o h = absurd (h refl)
off lines false o h = refl

off_line : (lines : List Line) (b : Bool) (empty : ℕ) (o : Option Line) (rest : Option (List Line)) → o ≡ None → behind lines (cond b (put_line empty o rest) None) ≡ None
off_line lines true empty None rest e = refl
off_line lines true empty (Some l) rest e = absurd cc
off_line lines false empty o rest e = refl

module _ (lines : List Line) (names : Names) (t : Tree) where
  turned_at : (l : Line) → length lines < first_line t → first_line t ≤ 1000 → line_of (first_line t) names t ≡ Some l → (ts : Trees)
      → behind lines (lines_from (suc (length lines)) names (more t ts)) ≡ behind ((lines ++ empties (first_line t - suc (length lines))) ++ l ∷ []) (lines_from (suc (length ((lines ++ empties (first_line t - suc (length lines))) ++ l ∷ []))) (names_after names (Some l)) ts)
  turned_at l lt le is ts =
      let m = first_line t in
      let k = m - suc (length lines) in
      let rest : Option Line → Option (List Line) = λ o. put_line k o (lines_from (suc m) (names_after names o) ts) in
      let stands = both (nat_le (suc (length lines)) m) (nat_le m LINE_LIMIT) (le-leb (suc (length lines)) m (omega (arith, lt))) (le-leb m LINE_LIMIT le) in
      let count : m ≡ length ((lines ++ empties k) ++ l ∷ []) = omega (arith, lt, length-append (lines ++ empties k) (l ∷ []), length-append lines (empties k), length-replicate k line.Empty) in
      ap (behind lines) (chosen (nat_le (suc (length lines)) m && nat_le m LINE_LIMIT) (rest (line_of m names t)) None stands) ∙ ap (λ o. behind lines (rest o)) is
      ∙ behind-behind lines (empties k ++ l ∷ []) (lines_from (suc m) (names_after names (Some l)) ts)
      ∙ ap (λ x. behind x (lines_from (suc m) (names_after names (Some l)) ts)) (sym (append_assoc lines (empties k) (l ∷ [])))
      ∙ ap (λ j. behind ((lines ++ empties k) ++ l ∷ []) (lines_from (suc j) (names_after names (Some l)) ts)) count

  -- The lines go on behind a line in line m.
  pub turned : (m : ℕ) → m ≡ first_line t → (l : Line) → is_next (length lines) m ≡ true → line_of m names t ≡ Some l
      → (longer : List Line) (known : Names) → longer ≡ (lines ++ empties (m - suc (length lines))) ++ l ∷ [] → known ≡ names_after names (Some l) → IsPushed lines longer names known t true
  turned m is l next line_is longer known long know ts =
      let b = both_parts (nat_lt (length lines) m) (nat_le m LINE_LIMIT) next in
      let lt : length lines < m = ltb-true (length lines) m b.0 in
      let le : m ≤ 1000 = leb-true m 1000 b.1 in
      let here = turned_at l (subst (λ k. length lines < k) is lt) (subst (λ k. k ≤ 1000) is le) (subst (λ k. line_of k names t ≡ Some l) is line_is) ts in
      let same : longer ≡ (lines ++ empties (first_line t - suc (length lines))) ++ l ∷ [] = subst (λ k. longer ≡ (lines ++ empties (k - suc (length lines))) ++ l ∷ []) is long in
      here ∙ ap (λ x. behind x (lines_from (suc (length x)) (names_after names (Some l)) ts)) (sym same) ∙ ap (λ x. behind longer (lines_from (suc (length longer)) x ts)) (sym know)

  -- They do not where the line is none of those to come, or the statement is no line.
  pub turned_outside : (m : ℕ) → m ≡ first_line t → is_next (length lines) m ≡ false → (longer : List Line) (known : Names) → IsPushed lines longer names known t false
  turned_outside m is outside longer known ts =
      off lines (nat_le (suc (length lines)) (first_line t) && nat_le (first_line t) LINE_LIMIT) _ (λ e.
      let b = both_parts (nat_le (suc (length lines)) (first_line t)) (nat_le (first_line t) LINE_LIMIT) e in
      let from = leb-true (suc (length lines)) (first_line t) b.0 in
      let in_turn : is_next (length lines) m ≡ true = both (nat_lt (length lines) m) (nat_le m LINE_LIMIT) (lt-ltb (length lines) m (omega (arith, from, is))) (subst (λ k. nat_le k LINE_LIMIT ≡ true) (sym is) b.1) in
      absurd (false≢true (sym outside ∙ in_turn)))

  pub turned_off : (m : ℕ) → m ≡ first_line t → line_of m names t ≡ None → (longer : List Line) (known : Names) → IsPushed lines longer names known t false
  turned_off m is none longer known ts =
      off_line lines (nat_le (suc (length lines)) (first_line t) && nat_le (first_line t) LINE_LIMIT) (first_line t - suc (length lines)) (line_of (first_line t) names t) _ (subst (λ k. line_of k names t ≡ None) is none)

-- the line of a node is that of its tree
pub first_line-is : (texts : Texts) (n : Node) → (out-Node n).first ≡ first_line (tree_of texts n)
first_line-is texts n = sym (ap first_line (tree_of-is texts n))

-- a statement behind some lines
module _ (lines : List Line) (names : Names) (texts : Texts) (node : Node) where
  pub line_pushed : (l : Line) → is_next (length lines) (out-Node node).first ≡ true → line_of (out-Node node).first names (tree_of texts node) ≡ Some l
      → (longer : List Line) (known : Names) → longer ≡ (lines ++ empties ((out-Node node).first - suc (length lines))) ++ l ∷ [] → known ≡ names_after names (Some l) → IsPushed lines longer names known (tree_of texts node) true
  line_pushed l next line_is longer known long know = turned lines names (tree_of texts node) (out-Node node).first (first_line-is texts node) l next line_is longer known long know

  pub none_next : is_next (length lines) (out-Node node).first ≡ false → (longer : List Line) (known : Names) → IsPushed lines longer names known (tree_of texts node) false
  none_next outside longer known = turned_outside lines names (tree_of texts node) (out-Node node).first (first_line-is texts node) outside longer known

  pub none_pushed : line_of (out-Node node).first names (tree_of texts node) ≡ None → (longer : List Line) (known : Names) → IsPushed lines longer names known (tree_of texts node) false
  none_pushed none longer known = turned_off lines names (tree_of texts node) (out-Node node).first (first_line-is texts node) none longer known

pub ruleset pushed = (line_pushed, none_next, none_pushed)

-- how the lines go on
pub goes_on : (old new : List Line) (known names : Names) (t : Tree) (b : Bool) → IsPushed old new known names t b → b ≡ true → (ts : Trees) → behind old (lines_from (suc (length old)) known (more t ts)) ≡ behind new (lines_from (suc (length new)) names ts)
goes_on old new known names t true is e ts = is ts
goes_on old new known names t false is e ts = absurd cc

pub goes_off : (old new : List Line) (known names : Names) (t : Tree) (b : Bool) → IsPushed old new known names t b → b ≡ false → (ts : Trees) → behind old (lines_from (suc (length old)) known (more t ts)) ≡ None
goes_off old new known names t true is e ts = absurd cc
goes_off old new known names t false is e ts = is ts

-- the lines are all of them
pub behind-all : (lines : List Line) (n : ℕ) (names : Names) → behind lines (lines_from n names no_more) ≡ Some lines
behind-all lines n names = ap Some (append-nil lines)

pub ruleset emptied = (empties_more, empties_none)

pub ruleset going = (goes_on, goes_off, behind-all, behind-nothing)
