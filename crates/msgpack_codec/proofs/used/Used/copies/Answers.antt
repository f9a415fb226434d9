use Rattle.std.proofs.Common.{◌≡◌, ◌∙◌, ◌||◌, ℕ, List, Bool, true, false, Bor, Vec, Global, map, ap, sym, length, cond, suc, ◌+◌, ◌≤◌, arith}
use Rattle.std.proofs.lemmas.List.{length-map}
use Rattle.std.specs.Str.{bytes_eq}
use Rattle.msgpack_codec.specs.Values.{is_in}
use Rattle.msgpack_codec.proofs.Sets.{is_in-insert_key, or_move, or_nothing}
use Rattle.msgpack_codec.proofs.used.Used.copies.Goals as goal

copied : List (Vec ℕ Global) → List ℕ → Bool
copied ks t = is_in (map (λ k. k.items) ks) t

lent : List (Bor (List ℕ)) → List ℕ → Bool
lent ks t = is_in (map (λ k. k.now) ks) t

pub loop-spelling-init : goal.loop-spelling-init
unfolding copied lent
loop-spelling-init c = record {
  same = λ t.
      ap (λ ks. copied ks t || lent c.into_iter-spelling-iterator.result t) c.new-spellings.ensures.empty
      ∙ ap (λ ks. lent ks t) (c.into_iter-spelling-iterator.ensures.into_iter_gives ∙ c.iter-spelling-items.ensures.rest)
      ∙ ap (λ v. is_in v t) c.self.view_is;
  few =
      let none : length c.new-spellings.result.keys ≡ 0 = ap length c.new-spellings.ensures.empty in
      let all : length c.into_iter-spelling-iterator.result ≡ length c.args.self.now =
      ap length (c.into_iter-spelling-iterator.ensures.into_iter_gives ∙ c.iter-spelling-items.ensures.rest)
      ∙ sym (length-map c.self.inside.spellings.keys (λ (k : Bor (List ℕ)). k.now))
      ∙ ap length c.self.view_is in
      omega arith;
}

added_few : (added : Bool) (n m : ℕ) → m ≡ n + (cond added 1 0) → m ≤ n + 1
added_few true n m e = omega arith
added_few false n m e = omega arith

pub loop-spelling-preserved : goal.loop-spelling-preserved
unfolding copied lent
loop-spelling-preserved c =
    let text = c.in_ok-from_slice.field-0 in
    record {
      same = λ t.
          ap (λ ks. copied ks t || lent c.next.new.self t) c.in_ok-insert.ensures.keys
          ∙ ap (λ b. b || lent c.next.new.self t) (is_in-insert_key (λ k. k.items) t text c.loop-spelling.spellings.keys ∙ ap (λ w. bytes_eq t w || copied c.loop-spelling.spellings.keys t) c.in_ok-from_slice.ensures.items)
          ∙ or_move (bytes_eq t c.in-Some.spelling.now.now) (copied c.loop-spelling.spellings.keys t) (lent c.next.new.self t)
          ∙ ap (λ ks. copied c.loop-spelling.spellings.keys t || lent ks t) (sym c.in-Some.ensures.steps)
          ∙ c.loop-spelling.invariant.same t;
      few =
          let le : length c.insert.new.self.keys ≤ length c.loop-spelling.spellings.keys + 1 = added_few c.in_ok-insert.field-0 (length c.loop-spelling.spellings.keys) (length c.insert.new.self.keys) c.in_ok-insert.ensures.len in
          let one : length c.loop-spelling.spelling-iterator ≡ suc (length c.next.new.self) = ap length c.in-Some.ensures.steps in
          let old : length c.loop-spelling.spellings.keys + length c.loop-spelling.spelling-iterator ≤ length c.args.self.now = c.loop-spelling.invariant.few in
          omega arith;
    }

pub returns-clause-same : goal.returns-clause-same
unfolding copied lent
returns-clause-same c t =
    sym (or_nothing (copied c.loop-spelling.spellings.keys t))
    ∙ ap (λ ks. copied c.loop-spelling.spellings.keys t || lent ks t) (sym c.in-None.ensures.steps.0)
    ∙ c.loop-spelling.invariant.same t

pub returns-clause-few : goal.returns-clause-few
returns-clause-few c =
    let count : length (map (λ (k : Vec ℕ Global). k.items) c.loop-spelling.spellings.keys) ≡ length c.loop-spelling.spellings.keys = length-map c.loop-spelling.spellings.keys (λ (k : Vec ℕ Global). k.items) in
    let few : length c.loop-spelling.spellings.keys + length c.loop-spelling.spelling-iterator ≤ length c.args.self.now = c.loop-spelling.invariant.few in
    omega arith
