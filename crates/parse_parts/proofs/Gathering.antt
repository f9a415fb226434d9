-- What the definitions by recursion make, as turns that gather parts from the first on.
use Rattle.std.proofs.Common.{◌≡◌, refl, sym, ap, ap₂, ◌∙◌, ℕ, suc, ◌+◌, Bool, true, false, not, ◌&&◌, List, [], ◌∷◌, ◌++◌, codes, Option, Some, None, if◌then◌else◌, append_assoc}
use Rattle.ruby_lexer.specs.Bytes.{Bytes}
use Rattle.ruby_lexer.specs.Pieces.{Toks}
use Rattle.ruby_tree.specs.Tree.{Goal, Tree, Other, Trees, no_more, more, trees_then, Pairs, no_pair, pair, Params, no_param, required, optional, rest_param, block_param}
use Rattle.ruby_tree.specs.Rules.{Scope, DoBlockOwner, own, next, word, declare, declared, is_mark, goal_at}
use Rattle.ruby_tree.specs.Build.{Given, nothing, one, spread_at}
use Rattle.ruby_tree.specs.FaultLine.{count_of}
use Rattle.tree_builder.specs.Subtrees.{trees_count, pairs_then, params_then}
use Rattle.reference_parser.specs.Answers.{Answer, taken, fault, deep, Parse, ◌>>=◌}
use Rattle.reference_parser.specs.Fronts.{is_name, is_label, more_elements, more_pairs, more_items}
use Rattle.reference_parser.specs.ReadItems.{Readers, Element, with_element, KeyValue, block_params, closed, with_goal, more_targets, read_targets, several, elements, pair_list, read_element, read_pair, read_passed, end_pairs, pairs_from, items_from, items}
use Rattle.parse_parts.specs.Items.{given_then, only_passing}
use Rattle.parse_parts.specs.OneTurn.{given_and, named_param_turn, param_turn, one_target, target_turn, several_turn, element_turn, pair_turn, pairs_behind, key_turn, labeled_turn, behind_turn, item_turn}

-- laws of answers
module _ {A B C : Type 0} where
  pub then_then : (x : Answer A) (f : A → Parse B) (g : B → Parse C) → ((x >>= f) >>= g) ≡ (x >>= λ a q y. f a q y >>= g)
  unfolding ◌>>=◌
  then_then (taken a q y) f g = refl
  then_then fault f g = refl
  then_then deep f g = refl

module _ {A B : Type 0} where
  pub then_same : (x : Answer A) (f g : A → Parse B) → ((a : A) (q : Toks) (y : Scope) → f a q y ≡ g a q y) → (x >>= f) ≡ (x >>= g)
  unfolding ◌>>=◌
  then_same (taken a q y) f g same = same a q y
  then_same fault f g same = refl
  then_same deep f g same = refl

  pub then_taken : (a : A) (q : Toks) (y : Scope) (f : A → Parse B) → (taken a q y >>= f) ≡ f a q y
  unfolding ◌>>=◌
  then_taken a q y f = refl

  pub then_fault : (f : A → Parse B) → (fault >>= f) ≡ fault
  unfolding ◌>>=◌
  then_fault f = refl

  pub if_then : (c : Bool) (x y : Answer A) (f : A → Parse B) → ((if c then x else y) >>= f) ≡ (if c then (x >>= f) else (y >>= f))
  if_then true x y f = refl
  if_then false x y f = refl

pub then_itself : {A : Type 0} (x : Answer A) → (x >>= λ a q y. taken a q y) ≡ x
unfolding ◌>>=◌
then_itself (taken a q y) = refl
then_itself fault = refl
then_itself deep = refl

pub both_same : {A : Type 0} (c : Bool) {x y u v : A} → x ≡ u → y ≡ v → (if c then x else y) ≡ (if c then u else v)
both_same true a b = a
both_same false a b = b

-- One part, and where a test says so those that follow it: behind what was gathered, which the parts are joined to.
module _ {A B : Type 0} (c : Toks → Bool) (F : Parse A) (join : B → A → A) (last : B → A) (onto : A → A) (G : B → Parse A) (further : B → A → A) (now : B → A)
    (same : (b : B) (w : Toks) (s : Scope) → F w s ≡ G b w s) (joins : (b : B) (t : A) → onto (join b t) ≡ further b t) (lasts : (b : B) → onto (last b) ≡ now b) where
  gathers_one : (b : B) (q : Toks) (y : Scope) → ((if c q then (F (next q) y >>= λ t r z. taken (join b t) r z) else taken (last b) q y) >>= λ u r z. taken (onto u) r z) ≡ (if c q then (G b (next q) y >>= λ u r z. taken (further b u) r z) else taken (now b) q y)
  gathers_one b q y =
      if_then (c q) (F (next q) y >>= λ t r z. taken (join b t) r z) (taken (last b) q y) (λ u r z. taken (onto u) r z)
      ∙ both_same (c q)
      (then_then (F (next q) y) (λ t r z. taken (join b t) r z) (λ u r z. taken (onto u) r z)
      ∙ then_same (F (next q) y) (λ t r z. taken (join b t) r z >>= λ u r z. taken (onto u) r z) (λ u r z. taken (further b u) r z) (λ t r z. then_taken (join b t) r z (λ u r z. taken (onto u) r z) ∙ ap (λ (u : A). taken u r z) (joins b t))
      ∙ ap (λ (x : Answer A). x >>= λ u r z. taken (further b u) r z) (same b (next q) y))
      (then_taken (last b) q y (λ u r z. taken (onto u) r z) ∙ ap (λ (u : A). taken u q y) (lasts b))

  pub gathers : (x : Answer B) → ((x >>= λ b q y. if c q then (F (next q) y >>= λ t r z. taken (join b t) r z) else taken (last b) q y) >>= λ u r z. taken (onto u) r z) ≡ (x >>= λ b q y. if c q then (G b (next q) y >>= λ u r z. taken (further b u) r z) else taken (now b) q y)
  gathers x =
      then_then x (λ b q y. if c q then (F (next q) y >>= λ t r z. taken (join b t) r z) else taken (last b) q y) (λ u r z. taken (onto u) r z)
      ∙ then_same x (λ b q y. (if c q then (F (next q) y >>= λ t r z. taken (join b t) r z) else taken (last b) q y) >>= λ u r z. taken (onto u) r z) (λ b q y. if c q then (G b (next q) y >>= λ u r z. taken (further b u) r z) else taken (now b) q y) gathers_one

-- rows of parts, joined
pub trees_join : (ts us vs : Trees) → trees_then (trees_then ts us) vs ≡ trees_then ts (trees_then us vs)
trees_join no_more us vs = refl
trees_join (more t ts) us vs = ap (λ (u : Trees). more t u) (trees_join ts us vs)

pub trees_end : (ts : Trees) → trees_then ts no_more ≡ ts
trees_end no_more = refl
trees_end (more t ts) = ap (λ (u : Trees). more t u) (trees_end ts)

pub trees_count_more : (ts : Trees) (t : Tree) → trees_count (trees_then ts (one t)) ≡ suc (trees_count ts)
trees_count_more no_more t = refl
trees_count_more (more u ts) t = ap suc (trees_count_more ts t)

pub pairs_join : (ps qs rs : Pairs) → pairs_then (pairs_then ps qs) rs ≡ pairs_then ps (pairs_then qs rs)
pairs_join no_pair qs rs = refl
pairs_join (pair k v ps) qs rs = ap (λ (u : Pairs). pair k v u) (pairs_join ps qs rs)

pub params_join : (ps qs rs : Params) → params_then (params_then ps qs) rs ≡ params_then ps (params_then qs rs)
params_join no_param qs rs = refl
params_join (required n ps) qs rs = ap (λ (u : Params). required n u) (params_join ps qs rs)
params_join (optional n t ps) qs rs = ap (λ (u : Params). optional n t u) (params_join ps qs rs)
params_join (rest_param n ps) qs rs = ap (λ (u : Params). rest_param n u) (params_join ps qs rs)
params_join (block_param n ps) qs rs = ap (λ (u : Params). block_param n u) (params_join ps qs rs)

spread_joins : (b : Bool) (k : ℕ) (ls hs : List ℕ) → ls ++ spread_at b k hs ≡ (ls ++ spread_at b k []) ++ hs
spread_joins true k ls hs = sym (append_assoc ls (k ∷ []) hs)
spread_joins false k ls hs = sym (append_assoc ls [] hs)

pub spread_end : (ls : List ℕ) → ls ++ [] ≡ ls
spread_end [] = refl
spread_end (l ∷ ls) = ap (λ (m : List ℕ). l ∷ m) (spread_end ls)

abbrev pub given_of : Trees → List ℕ → Other → Other → Given
given_of ts ks v b = record { trees = ts; spread = ks; value = v; block = b }

pub given_joins : (g h : Given) (e : Element) → given_then g (with_element e (trees_count g.trees) h) ≡ given_then (given_and g e) h
given_joins g h e = ap₂ (λ (ts : Trees) (ks : List ℕ). given_of ts ks h.value h.block) (sym (trees_join g.trees (one e.tree) h.trees)) (spread_joins e.spread (trees_count g.trees) g.spread h.spread)

module _ (source : Bytes) (Q : Readers) where
  -- what the turns that are left make, behind what was gathered
  abbrev pub several_rest : DoBlockOwner → ℕ → Trees → Parse Trees
  several_rest d m ts w s = several source Q m d w s >>= λ us r z. taken (trees_then ts us) r z

  pub several_unrolls : (d : DoBlockOwner) (m : ℕ) (ts : Trees) (w : Toks) (s : Scope) → several_rest d (suc m) ts w s ≡ several_turn source Q d ts (several_rest d m) w s
  unfolding several several_turn
  several_unrolls d m ts w s =
      gathers (λ q. is_mark source (codes ",") q) (several source Q m d) (λ a us. more a us) (λ a. one a) (λ us. trees_then ts us)
      (λ a. several source Q m d) (λ a us. trees_then (trees_then ts (one a)) us) (λ a. trees_then ts (one a))
      (λ a v x. refl) (λ a us. sym (trees_join ts (one a) us)) (λ a. refl) (Q.arg d w s)

  pub several_whole : (d : DoBlockOwner) (m : ℕ) (w : Toks) (s : Scope) → several source Q m d w s ≡ several_rest d m no_more w s
  several_whole d m w s = sym (then_itself (several source Q m d w s))

  abbrev pub pairs_rest : DoBlockOwner → ℕ → Pairs → Parse Pairs
  pairs_rest d m ps w s = pair_list source Q m d w s >>= λ qs r z. taken (pairs_then ps qs) r z

  pub pairs_unroll : (d : DoBlockOwner) (m : ℕ) (ps : Pairs) (w : Toks) (s : Scope) → pairs_rest d (suc m) ps w s ≡ pair_turn source Q d ps (pairs_rest d m) w s
  unfolding pair_list pair_turn
  pairs_unroll d m ps w s =
      gathers (λ q. more_pairs source q) (pair_list source Q m d) (λ p qs. pair p.key p.value qs) (λ p. pair p.key p.value no_pair) (λ qs. pairs_then ps qs)
      (λ p. pair_list source Q m d) (λ p qs. pairs_then (pairs_then ps (pair p.key p.value no_pair)) qs) (λ p. pairs_then ps (pair p.key p.value no_pair))
      (λ p v x. refl) (λ p qs. sym (pairs_join ps (pair p.key p.value no_pair) qs)) (λ p. refl) (read_pair source Q d w s)

  pub pairs_whole : (d : DoBlockOwner) (m : ℕ) (w : Toks) (s : Scope) → pair_list source Q m d w s ≡ pairs_rest d m no_pair w s
  pairs_whole d m w s = sym (then_itself (pair_list source Q m d w s))

  -- the pairs behind a first one, and what is passed behind them
  pub pairs_from_is : (d : DoBlockOwner) (w : Toks) (p : KeyValue) (q : Toks) (y : Scope) → pairs_from source Q d w p q y ≡ (pairs_behind source Q d p q y >>= λ ps r z. end_pairs source Q d w ps r z)
  unfolding pairs_from pairs_behind
  pairs_from_is d w p q y = sym (
      if_then (more_pairs source q) (pair_list source Q (suc (count_of q)) d (next q) y >>= λ ps r z. taken (pair p.key p.value ps) r z) (taken (pair p.key p.value no_pair) q y) (λ ps r z. end_pairs source Q d w ps r z)
      ∙ both_same (more_pairs source q)
      (then_then (pair_list source Q (suc (count_of q)) d (next q) y) (λ ps r z. taken (pair p.key p.value ps) r z) (λ ps r z. end_pairs source Q d w ps r z)
      ∙ then_same (pair_list source Q (suc (count_of q)) d (next q) y) (λ ps r z. taken (pair p.key p.value ps) r z >>= λ ps r z. end_pairs source Q d w ps r z) (λ ps r z. end_pairs source Q d w (pair p.key p.value ps) r z) (λ ps r z. then_taken (pair p.key p.value ps) r z (λ ps r z. end_pairs source Q d w ps r z)))
      (then_taken (pair p.key p.value no_pair) q y (λ ps r z. end_pairs source Q d w ps r z)))

  abbrev pub elements_rest : ℕ → Given → Parse Given
  elements_rest m g w s = elements source Q m (trees_count g.trees) w s >>= λ h r z. taken (given_then g h) r z

  pub elements_unroll : (m : ℕ) (g : Given) (w : Toks) (s : Scope) → elements_rest (suc m) g w s ≡ element_turn source Q g (elements_rest m) w s
  unfolding elements element_turn
  elements_unroll m g w s =
      gathers (λ q. more_elements source q) (elements source Q m (suc (trees_count g.trees))) (λ e h. with_element e (trees_count g.trees) h) (λ e. with_element e (trees_count g.trees) nothing) (λ h. given_then g h)
      (λ e. elements source Q m (trees_count (given_and g e).trees)) (λ e h. given_then (given_and g e) h) (λ e. given_and g e)
      (λ e v x. ap (λ n. elements source Q m n v x) (sym (trees_count_more g.trees e.tree))) (λ e h. given_joins g h e) (λ e. refl) (read_element source Q own w s)

  pub elements_whole : (m : ℕ) (w : Toks) (s : Scope) → elements source Q m 0 w s ≡ elements_rest m nothing w s
  elements_whole m w s = sym (then_itself (elements source Q m 0 w s))

  abbrev pub items_rest : DoBlockOwner → ℕ → Given → Parse Given
  items_rest d m g w s = items source Q m d (trees_count g.trees) w s >>= λ h r z. taken (given_then g h) r z

  pub behind_unrolls : (d : DoBlockOwner) (m : ℕ) (g : Given) (o : Toks) (e : Element) (q : Toks) (y : Scope) → (items_from source Q (items source Q m d (suc (trees_count g.trees))) d (trees_count g.trees) o e q y >>= λ h r z. taken (given_then g h) r z) ≡ behind_turn source Q d g (items_rest d m) o e q y
  unfolding items_from behind_turn key_turn
  behind_unrolls d m g o e q y =
      if_then (not e.spread && is_mark source (codes "=>") q)
      (Q.arg d (next q) y >>= λ v p x. pairs_from source Q d o (record { key = e.tree; value = v }) p x)
      (if more_items source q then (items source Q m d (suc (trees_count g.trees)) (next q) y >>= λ h r z. taken (with_element e (trees_count g.trees) h) r z) else taken (with_element e (trees_count g.trees) nothing) q y)
      (λ h r z. taken (given_then g h) r z)
      ∙ both_same (not e.spread && is_mark source (codes "=>") q)
      (then_then (Q.arg d (next q) y) (λ v p x. pairs_from source Q d o (record { key = e.tree; value = v }) p x) (λ h r z. taken (given_then g h) r z))
      (gathers_one (λ q. more_items source q) (items source Q m d (suc (trees_count g.trees))) (λ e h. with_element e (trees_count g.trees) h) (λ e. with_element e (trees_count g.trees) nothing) (λ h. given_then g h)
      (λ e. items source Q m d (trees_count (given_and g e).trees)) (λ e h. given_then (given_and g e) h) (λ e. given_and g e)
      (λ e v x. ap (λ n. items source Q m d n v x) (sym (trees_count_more g.trees e.tree))) (λ e h. given_joins g h e) (λ e. refl) e q y)

  pub items_unroll : (d : DoBlockOwner) (m : ℕ) (g : Given) (w : Toks) (s : Scope) → items_rest d (suc m) g w s ≡ item_turn source Q d g (items_rest d m) w s
  unfolding items item_turn labeled_turn
  items_unroll d m g w s =
      if_then (is_mark source (codes "&") w) (read_passed source Q d w s >>= λ p r z. taken (only_passing p) r z)
      (if is_label w then (read_pair source Q d w s >>= λ p q y. pairs_from source Q d w p q y) else (read_element source Q d w s >>= λ e q y. items_from source Q (items source Q m d (suc (trees_count g.trees))) d (trees_count g.trees) w e q y))
      (λ h r z. taken (given_then g h) r z)
      ∙ both_same (is_mark source (codes "&") w)
      (then_then (read_passed source Q d w s) (λ p r z. taken (only_passing p) r z) (λ h r z. taken (given_then g h) r z)
      ∙ then_same (read_passed source Q d w s) (λ p r z. taken (only_passing p) r z >>= λ h r z. taken (given_then g h) r z) (λ p r z. taken (given_then g (only_passing p)) r z) (λ p r z. then_taken (only_passing p) r z (λ h r z. taken (given_then g h) r z)))
      (if_then (is_label w) (read_pair source Q d w s >>= λ p q y. pairs_from source Q d w p q y)
      (read_element source Q d w s >>= λ e q y. items_from source Q (items source Q m d (suc (trees_count g.trees))) d (trees_count g.trees) w e q y)
      (λ h r z. taken (given_then g h) r z)
      ∙ both_same (is_label w)
      (then_then (read_pair source Q d w s) (λ p q y. pairs_from source Q d w p q y) (λ h r z. taken (given_then g h) r z))
      (then_then (read_element source Q d w s) (λ e q y. items_from source Q (items source Q m d (suc (trees_count g.trees))) d (trees_count g.trees) w e q y) (λ h r z. taken (given_then g h) r z)
      ∙ then_same (read_element source Q d w s) (λ e q y. items_from source Q (items source Q m d (suc (trees_count g.trees))) d (trees_count g.trees) w e q y >>= λ h r z. taken (given_then g h) r z) (λ e q y. behind_turn source Q d g (items_rest d m) w e q y) (λ e q y. behind_unrolls d m g w e q y)))

  pub items_whole : (d : DoBlockOwner) (m : ℕ) (w : Toks) (s : Scope) → items source Q m d 0 w s ≡ items_rest d m nothing w s
  items_whole d m w s = sym (then_itself (items source Q m d 0 w s))

  pub behind_whole : (d : DoBlockOwner) (m : ℕ) (o : Toks) (e : Element) (q : Toks) (y : Scope) → items_from source Q (items source Q m d 1) d 0 o e q y ≡ behind_turn source Q d nothing (items_rest d m) o e q y
  behind_whole d m o e q y = sym (then_itself (items_from source Q (items source Q m d 1) d 0 o e q y)) ∙ behind_unrolls d m nothing o e q y

module _ (source : Bytes) where
  abbrev pub params_rest : ℕ → Params → Parse Params
  params_rest m ps w s = block_params source m w s >>= λ qs r z. taken (params_then ps qs) r z

  pub params_unroll : (m : ℕ) (ps : Params) (w : Toks) (s : Scope) → params_rest (suc m) ps w s ≡ param_turn source ps (params_rest m) w s
  unfolding block_params param_turn named_param_turn
  params_unroll m ps w s =
      if_then (is_name w) (if is_mark source (codes ",") (next w) then (block_params source m (next (next w)) (declare (word source w) s) >>= λ qs r z. taken (required (word source w) qs) r z) else taken (required (word source w) no_param) (next w) (declare (word source w) s))
      (if is_mark source (codes "*") w && is_name (next w) then taken (rest_param (word source (next w)) no_param) (next (next w)) (declare (word source (next w)) s) else fault)
      (λ qs r z. taken (params_then ps qs) r z)
      ∙ both_same (is_name w)
      (gathers_one (λ q. is_mark source (codes ",") q) (block_params source m) (λ b qs. required (word source w) qs) (λ b. required (word source w) no_param) (λ qs. params_then ps qs)
      (λ b. block_params source m) (λ b qs. params_then (params_then ps (required (word source w) no_param)) qs) (λ b. params_then ps (required (word source w) no_param))
      (λ b v x. refl) (λ b qs. sym (params_join ps (required (word source w) no_param) qs)) (λ b. refl) (word source w) (next w) (declare (word source w) s))
      (if_then (is_mark source (codes "*") w && is_name (next w)) (taken (rest_param (word source (next w)) no_param) (next (next w)) (declare (word source (next w)) s)) fault (λ qs r z. taken (params_then ps qs) r z)
      ∙ both_same (is_mark source (codes "*") w && is_name (next w))
      (then_taken (rest_param (word source (next w)) no_param) (next (next w)) (declare (word source (next w)) s) (λ qs r z. taken (params_then ps qs) r z))
      (then_fault (λ qs r z. taken (params_then ps qs) r z)))

  pub params_whole : (m : ℕ) (w : Toks) (s : Scope) → block_params source m w s ≡ params_rest m no_param w s
  params_whole m w s = sym (then_itself (block_params source m w s))

  abbrev pub targets_rest : ℕ → List Goal → Parse (List Goal)
  targets_rest m gs w s = more_targets source m w s >>= λ us r z. taken (gs ++ us) r z

  targets_by : (m : ℕ) (gs : List Goal) (w : Toks) (s : Scope) (o : Option Goal) →
      (with_goal source o (λ g. if is_mark source (codes ",") (next w) then (more_targets source m (next (next w)) (declared g s) >>= λ hs r z. taken (g ∷ hs) r z) else taken (g ∷ []) (next w) (declared g s)) >>= λ us r z. taken (gs ++ us) r z)
      ≡ (with_goal source o (λ g. taken (gs ++ g ∷ []) (next w) (declared g s)) >>= λ hs q y. if is_mark source (codes ",") q then targets_rest m hs (next q) y else taken hs q y)
  unfolding with_goal
  targets_by m gs w s None = then_fault (λ us r z. taken (gs ++ us) r z) ∙ sym (then_fault (λ hs q y. if is_mark source (codes ",") q then targets_rest m hs (next q) y else taken hs q y))
  targets_by m gs w s (Some g) =
      gathers_one (λ q. is_mark source (codes ",") q) (more_targets source m) (λ b us. g ∷ us) (λ b. g ∷ []) (λ us. gs ++ us)
      (λ b. more_targets source m) (λ b us. (gs ++ g ∷ []) ++ us) (λ b. gs ++ g ∷ [])
      (λ b v x. refl) (λ b us. sym (append_assoc gs (g ∷ []) us)) (λ b. refl) g (next w) (declared g s)
      ∙ sym (then_taken (gs ++ g ∷ []) (next w) (declared g s) (λ hs q y. if is_mark source (codes ",") q then targets_rest m hs (next q) y else taken hs q y))

  pub targets_unroll : (m : ℕ) (gs : List Goal) (w : Toks) (s : Scope) → targets_rest (suc m) gs w s ≡ target_turn source gs (targets_rest m) w s
  unfolding more_targets target_turn one_target
  targets_unroll m gs w s = targets_by m gs w s (goal_at source w)

  -- the first variable, the comma that has to follow, and the others
  targets_from : (m : ℕ) (w : Toks) (s : Scope) (o : Option Goal) →
      with_goal source o (λ g. if is_mark source (codes ",") (next w) then (more_targets source m (next (next w)) (declared g s) >>= λ gs r z. taken (g ∷ gs) r z) else fault)
      ≡ (with_goal source o (λ g. taken ([] ++ g ∷ []) (next w) (declared g s)) >>= λ hs q y. if is_mark source (codes ",") q then targets_rest m hs (next q) y else fault)
  unfolding with_goal
  targets_from m w s None = sym (then_fault (λ hs q y. if is_mark source (codes ",") q then targets_rest m hs (next q) y else fault))
  targets_from m w s (Some g) = sym (then_taken (g ∷ []) (next w) (declared g s) (λ hs q y. if is_mark source (codes ",") q then targets_rest m hs (next q) y else fault))

  pub targets_whole : (w : Toks) (s : Scope) → read_targets source w s ≡ (one_target source [] w s >>= λ hs q y. if is_mark source (codes ",") q then targets_rest (suc (count_of w)) hs (next q) y else fault)
  unfolding read_targets one_target
  targets_whole w s = targets_from (suc (count_of w)) w s (goal_at source w)

  -- a bracket that closes a list, and what stands before it
  pub closed_as : {A : Type 0} (f : Bytes) (a : A) (q : Toks) (y : Scope) → closed source f a q y ≡ (closed source f (tt {0}) q y >>= λ u r z. taken a r z)
  unfolding closed
  closed_as f a q y = sym (
      if_then (is_mark source (codes ",") q) (if is_mark source f (next q) then taken (tt {0}) (next (next q)) y else fault) (if is_mark source f q then taken (tt {0}) (next q) y else fault) (λ u r z. taken a r z)
      ∙ both_same (is_mark source (codes ",") q)
      (if_then (is_mark source f (next q)) (taken (tt {0}) (next (next q)) y) fault (λ u r z. taken a r z) ∙ both_same (is_mark source f (next q)) (then_taken (tt {0}) (next (next q)) y (λ u r z. taken a r z)) (then_fault (λ u r z. taken a r z)))
      (if_then (is_mark source f q) (taken (tt {0}) (next q) y) fault (λ u r z. taken a r z) ∙ both_same (is_mark source f q) (then_taken (tt {0}) (next q) y (λ u r z. taken a r z)) (then_fault (λ u r z. taken a r z))))
