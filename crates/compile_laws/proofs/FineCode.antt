-- Code whose instructions have operands that are right, and whose rows name the sequences that they start.
use Rattle.std.proofs.Common.{◌≡◌, ◌≢◌, ℕ, zero, suc, ◌+◌, ◌≤◌, ◌<◌, ◌⊎◌, inl, inr, Bool, true, false, refl, subst, arith, List, [], ◌∷◌, Option, Some, None, All}
use Rattle.std.specs.Prelude.{⊤, codes}
use Rattle.std.proofs.lemmas.List.Elements.{All-weaker, All-nil}
use Rattle.ruby_tree.specs.Names.{Bytes}
use Rattle.ruby_tree.specs.Tree.{Goal, to_local, to_instance, to_global, to_constant, Tree, Trees, no_more, more, Other, without, with}
use Rattle.iseq_types.specs.declared.instructions.Instr.{Instr}
use Rattle.iseq_types.specs.declared.instructions.Instr.TheVariants.{Send, InvokeSuper, Throw, Leave}
use Rattle.iseq_types.specs.declared.sequences.CatchKind.{CatchKind}
use Rattle.iseq_types.specs.declared.sequences.CatchKind.TheVariants as catches
use Rattle.iseq_types.specs.declared.sequences.IndexRow.{IndexRow}
use Rattle.iseq_types.specs.declared.sequences.SeqKind.{SeqKind}
use Rattle.iseq_types.specs.declared.sequences.SeqKind.TheVariants as kinds
use Rattle.iseq_types.specs.Index.{IsChild, HasLocal}
use Rattle.iseq_types.specs.Sound.{FindsLocal, NamesChild, InstrNamesChild, SeqIsRight, SpreadsBelow, HasKnownOperands}
use Rattle.ruby_meaning.specs.Levels.{Held, GoalHeld, GoalsHeld, NameHeld, slot_of, level_of}
use Rattle.code_meaning.specs.Code.{Shape, done, op, ahead, behind, deep, part, held}
use Rattle.compile_table.specs.Shapes.{Where, number_of, count, set_goal, sets, named, plain_send, with_literal, value_flag, bare_flag, set_by_send, or_set, attribute_read, index_read, turns, branch_by}
use Rattle.tree_laws.specs.Formed.{HasTreeAt, AreSpread}

-- Within a part that an ensure row holds or not.
module _ (rows : List IndexRow) (id : ℕ) (kind : SeqKind) where
  abbrev pub MayPend : Type 0
  MayPend = (kind ≡ kinds.Rescue) ⊎ (kind ≡ kinds.Ensure)

  abbrev pub ThrowsWell : Bool → Instr → Type 0
  ThrowsWell b (Throw n) = (n ≤ 7) × ((n ≡ 0) ⊎ (n ≡ 7) → MayPend) × (n ≡ 6 → b ≡ true)
  ThrowsWell b Leave = kind ≢ kinds.Ensure
  ThrowsWell b i = ⊤

  abbrev pub IsFine : Bool → Instr → Type 0
  IsFine b i = FindsLocal rows id i × InstrNamesChild rows id i × SpreadsBelow i × HasKnownOperands i × ThrowsWell b i

  abbrev pub ensured : CatchKind → Bool → Bool
  ensured catches.Ensure b = true
  ensured k b = b

  abbrev pub AreFine : Bool → Shape → Type 0
  AreFine b done = ⊤
  AreFine b (op l i s) = IsFine b i × AreFine b s
  AreFine b (ahead l j n s) = ((t : ℕ) → IsFine b (j t)) × AreFine b s
  AreFine b (behind l j n s) = ((t : ℕ) → IsFine b (j t)) × AreFine b s
  AreFine b (deep l j s) = ((t : ℕ) → IsFine b (j t)) × AreFine b s
  AreFine b (part d a s) = AreFine b a × AreFine b s
  AreFine b (held k far q a s) = SeqIsRight rows id k q × AreFine (ensured k b) a × AreFine b s

  pub record Fine (b : Bool) (s : Shape) : Type 0 where
    pub all : AreFine b s

  pub nothing : {b : Bool} → Fine b done
  nothing = record { all = tt }

  -- an instruction with operands that may be anything, and one of which something is to be shown
  pub plain : {b : Bool} {l : ℕ} {i : Instr} {s : Shape} → IsFine b i → Fine b s → Fine b (op l i s)
  plain f g = record { all = (f, g.all) }

  pub leaping : {b : Bool} {l n : ℕ} {j : ℕ → Instr} {s : Shape} → ((t : ℕ) → IsFine b (j t)) → Fine b s → Fine b (ahead l j n s)
  leaping f g = record { all = (f, g.all) }

  pub back : {b : Bool} {l n : ℕ} {j : ℕ → Instr} {s : Shape} → ((t : ℕ) → IsFine b (j t)) → Fine b s → Fine b (behind l j n s)
  back f g = record { all = (f, g.all) }

  pub deeply : {b : Bool} {l : ℕ} {j : ℕ → Instr} {s : Shape} → ((t : ℕ) → IsFine b (j t)) → Fine b s → Fine b (deep l j s)
  deeply f g = record { all = (f, g.all) }

  pub over : {b : Bool} {d : ℕ} {a s : Shape} → Fine b a → Fine b s → Fine b (part d a s)
  over f g = record { all = (f.all, g.all) }

  pub caught : {b : Bool} {k : CatchKind} {far q : ℕ} {a s : Shape} → SeqIsRight rows id k q → Fine (ensured k b) a → Fine b s → Fine b (held k far q a s)
  caught f g k = record { all = (f, g.all, k.all) }

  -- all that is to be shown of an instruction without such operands
  abbrev pub ok : ⊤ × ⊤ × ⊤ × ⊤ × ⊤
  ok = (tt, tt, tt, tt, tt)

  -- ---- operands

  -- where a node stands: its sequence has this number, each local that is held is one of the index, and where it may retry, that may pend
  pub record Stands (l : Where) (k : Bool) : Type 0 where
    pub number : l.number ≡ id
    pub locals : (x : Bytes) → Held l.sight x → HasLocal rows id (slot_of x l.sight.scopes) (level_of x l.sight.scopes)
    pub pends : k ≡ true → MayPend

  pub goal_fine : (b : Bool) (l : Where) (k : Bool) (g : Goal) → Stands l k → GoalHeld l.sight g → IsFine b (set_goal l g)
  goal_fine b l k (to_local x) a h = (a.locals x h, tt, tt, tt, tt)
  goal_fine b l k (to_instance x) a h = ok
  goal_fine b l k (to_global x) a h = ok
  goal_fine b l k (to_constant x) a h = ok

  pub sets_fine : {b : Bool} (l : Where) (k : Bool) (line : ℕ) (gs : List Goal) {s : Shape} → Stands l k → GoalsHeld l.sight gs → Fine b s → Fine b (sets l line gs s)
  sets_fine l k line [] a h f = f
  sets_fine {b} l k line (g ∷ gs) a h f = plain (goal_fine b l k g a h.0) (sets_fine l k line gs a h.1 f)

  pub named_fine : {b : Bool} (l : Where) (k : Bool) (line : ℕ) (x : Option Bytes) {s : Shape} → Stands l k → NameHeld l.sight x → Fine b s → Fine b (named l line x s)
  named_fine l k line None a h f = f
  named_fine l k line (Some x) a h f = plain ok (plain (a.locals x h, tt, tt, tt, tt) f)

  -- splats

  below : (ts : Trees) (n : ℕ) → HasTreeAt ts n → n < count ts
  below no_more n h = absurd h
  below (more t ts) zero h = omega arith
  below (more t ts) (suc n) h = let e = below ts n h in omega (arith, e)

  pub spread_below : (ts : Trees) (ks : List ℕ) → AreSpread ts ks → All (λ place. place < count ts) ks
  spread_below ts ks e = All-weaker (HasTreeAt ts) (λ place. place < count ts) (λ n h. below ts n h) ks e

  -- flags

  flags_small : (r : ℕ) (v : Other) (bare : Bool) → (r ≡ 0) ⊎ (r ≡ 1) → r + value_flag v + bare_flag bare ≤ 7
  flags_small r without true (inl e) = omega (arith, e)
  flags_small r without false (inl e) = omega (arith, e)
  flags_small r without true (inr e) = omega (arith, e)
  flags_small r without false (inr e) = omega (arith, e)
  flags_small r (with t) true (inl e) = omega (arith, e)
  flags_small r (with t) false (inl e) = omega (arith, e)
  flags_small r (with t) true (inr e) = omega (arith, e)
  flags_small r (with t) false (inr e) = omega (arith, e)

  bits_small : (r : ℕ) (v : Other) → (r ≡ 0) ⊎ (r ≡ 1) → r + value_flag v ≤ 7
  bits_small r v e = let a = flags_small r v false e in omega arith

  bit_small : (r : ℕ) → (r ≡ 0) ⊎ (r ≡ 1) → r ≤ 7
  bit_small r (inl e) = omega (arith, e)
  bit_small r (inr e) = omega (arith, e)

  -- children

  -- the one of this kind that a tree is has its number
  abbrev pub Knows : Where → SeqKind → Tree → Type 0
  Knows l k t = IsChild rows id k (number_of l t)

  pub names : (k : SeqKind) (n : ℕ) → IsChild rows id k n → NamesChild rows id k (suc n)
  names k n c z = subst (IsChild rows id k) (omega arith) c

  names_none : (k : SeqKind) → NamesChild rows id k 0
  names_none k z = absurd (z refl)

  pub some : (n : ℕ) → suc n ≢ 0
  some n e = absurd (omega (arith, e))

  -- the block of a call
  abbrev pub KnowsBlock : Where → Other → Type 0
  KnowsBlock l without = ⊤
  KnowsBlock l (with t) = Knows l kinds.Block t

  -- a call by the number of its block
  pub record CallsWell (call : ℕ → Instr) : Type 0 where
    pub alone : (b : Bool) → IsFine b (call 0)
    pub with_block : (b : Bool) (n : ℕ) → IsChild rows id kinds.Block n → IsFine b (call (suc n))

  pub literal_fine : {b : Bool} (l : Where) (line : ℕ) (call : ℕ → Instr) (t : Other) → CallsWell call → KnowsBlock l t → Fine b (with_literal l line call t)
  literal_fine {b} l line call without c w = plain (c.alone b) nothing
  literal_fine {b} l line call (with t) c w = caught refl (plain (c.with_block b (number_of l t) w) nothing) nothing

  pub send_well : (x : Bytes) (ts : Trees) (ks : List ℕ) (r : ℕ) (v : Other) (bare : Bool) → AreSpread ts ks → (r ≡ 0) ⊎ (r ≡ 1) → CallsWell (Send x (count ts) ks (r + value_flag v + bare_flag bare))
  send_well x ts ks r v bare e f = record {
    alone = λ b. (tt, names_none kinds.Block, spread_below ts ks e, flags_small r v bare f, tt);
    with_block = λ b n c. (tt, names kinds.Block n c, spread_below ts ks e, flags_small r v bare f, tt);
  }

  pub safe_well : (x : Bytes) (ts : Trees) (ks : List ℕ) (r : ℕ) (v : Other) → AreSpread ts ks → (r ≡ 0) ⊎ (r ≡ 1) → CallsWell (Send x (count ts) ks (r + value_flag v))
  safe_well x ts ks r v e f = record {
    alone = λ b. (tt, names_none kinds.Block, spread_below ts ks e, bits_small r v f, tt);
    with_block = λ b n c. (tt, names kinds.Block n c, spread_below ts ks e, bits_small r v f, tt);
  }

  pub super_well : (ts : Trees) (ks : List ℕ) (v : Other) → AreSpread ts ks → CallsWell (InvokeSuper (count ts) ks (1 + value_flag v))
  super_well ts ks v e = record {
    alone = λ b. (tt, names_none kinds.Block, spread_below ts ks e, bits_small 1 v (inr refl), tt);
    with_block = λ b n c. (tt, names kinds.Block n c, spread_below ts ks e, bits_small 1 v (inr refl), tt);
  }

  pub bare_well : (n : ℕ) → CallsWell (InvokeSuper n [] 1)
  bare_well m = record {
    alone = λ b. (tt, names_none kinds.Block, All-nil (λ place. place < m), omega arith, tt);
    with_block = λ b n c. (tt, names kinds.Block n c, All-nil (λ place. place < m), omega arith, tt);
  }

  pub plain_well : (b : Bool) (x : Bytes) (n r : ℕ) → (r ≡ 0) ⊎ (r ≡ 1) → IsFine b (plain_send x n r)
  plain_well b x n r e = (tt, names_none kinds.Block, All-nil (λ place. place < n), bit_small r e, tt)

  -- ---- parts that stand several times

  pub by_send_fine : {b : Bool} (line call depth : ℕ) (x : Bytes) (n r : ℕ) {s : Shape} → (r ≡ 0) ⊎ (r ≡ 1) → Fine b s → Fine b (set_by_send line call depth x n r s)
  by_send_fine {b} line call depth x n r e f = plain ok (plain (plain_well b x n r e) (plain ok f))

  pub or_set_fine : {b : Bool} (line call : ℕ) (branch : ℕ → Instr) (depth : ℕ) (x : Bytes) (n r : ℕ) {v : Shape} → ((t : ℕ) → IsFine b (branch t)) → (r ≡ 0) ⊎ (r ≡ 1) → Fine b v → Fine b (or_set line call branch depth x n r v)
  or_set_fine line call branch depth x n r g e f = plain ok (leaping g (plain ok (over f (by_send_fine line call depth x n r e (leaping (λ t. ok) (plain ok (plain ok nothing)))))))

  pub attribute_read_fine : {b : Bool} (line call : ℕ) (x : Bytes) (r : ℕ) {a s : Shape} → (r ≡ 0) ⊎ (r ≡ 1) → Fine b a → Fine b s → Fine b (attribute_read line call x r a s)
  attribute_read_fine {b} line call x r e f g = plain ok (over f (plain ok (plain (plain_well b x 0 r e) g)))

  pub index_read_fine : {b : Bool} (line call r : ℕ) {a i s : Shape} → (r ≡ 0) ⊎ (r ≡ 1) → Fine b a → Fine b i → Fine b s → Fine b (index_read line call r a i s)
  index_read_fine {b} line call r e f g k = plain ok (over f (over g (plain ok (plain ok (plain (plain_well b (codes "[]") 1 r e) k)))))

  branch_fine : (b : Bool) (u : Bool) (t : ℕ) → IsFine b (branch_by u t)
  branch_fine b true t = ok
  branch_fine b false t = ok

  pub turns_fine : {b : Bool} (line : ℕ) (u : Bool) {a c : Shape} → Fine b a → Fine b c → Fine b (turns line u a c)
  turns_fine {b} line u f g = caught refl (caught refl f nothing) (plain ok (over g (back (branch_fine b u) (plain ok nothing))))
