-- The spelling of each kind of value.
use Rattle.std.proofs.Common.{◌≡◌, ℕ, Bool, ℤ, pos, negsuc, cond, List, [], ◌∷◌, ◌++◌, length, map, sym, ◌∙◌, ap, rules}
use Rattle.std.specs.List.{concat}
use Rattle.msgpack_codec.specs.declared.value.Value.{Value, out-Value, roll-Value}
use Rattle.msgpack_codec.specs.declared.value.Value.TheVariants as value
use Rattle.msgpack_codec.specs.declared.value.Value.TheOpen.{Value-F}
use Rattle.msgpack_codec.specs.declared.value.Value.TheFolds.{fold-Value, fold-roll-Value, the_lemmas}
use Rattle.msgpack_codec.specs.Message.{spelling_of, spelling_step, natural, negative, str_head, sym_head, list_head, map_head}

pub out-Nil : out-Value value.Nil ≡ Value-F.Nil
out-Nil = search (rules, the_lemmas)

pub out-Bool : (b : Bool) → out-Value (value.Bool b) ≡ Value-F.Bool b
out-Bool b = search (rules, the_lemmas)

pub out-Int : (n : ℤ) → out-Value (value.Int n) ≡ Value-F.Int n
out-Int n = search (rules, the_lemmas)

pub out-Str : (t : List ℕ) → out-Value (value.Str t) ≡ Value-F.Str t
out-Str t = search (rules, the_lemmas)

pub out-Sym : (t : List ℕ) → out-Value (value.Sym t) ≡ Value-F.Sym t
out-Sym t = search (rules, the_lemmas)

pub out-List : (all : List Value) → out-Value (value.List all) ≡ Value-F.List all
out-List all = search (rules, the_lemmas)

pub out-Map : (all : List (Value × Value)) → out-Value (value.Map all) ≡ Value-F.Map all
out-Map all = search (rules, the_lemmas)

pub roll_out : (v : Value) → roll-Value (out-Value v) ≡ v
roll_out v = search (rules, the_lemmas)

pub is-Nil : (v : Value) → out-Value v ≡ Value-F.Nil → v ≡ value.Nil
is-Nil v h = sym (roll_out v) ∙ ap roll-Value h ∙ value.rolls-Nil

pub is-Bool : (v : Value) (b : Bool) → out-Value v ≡ Value-F.Bool b → v ≡ value.Bool b
is-Bool v b h = sym (roll_out v) ∙ ap roll-Value h ∙ value.rolls-Bool b

pub is-Int : (v : Value) (n : ℤ) → out-Value v ≡ Value-F.Int n → v ≡ value.Int n
is-Int v n h = sym (roll_out v) ∙ ap roll-Value h ∙ value.rolls-Int n

pub is-Str : (v : Value) (t : List ℕ) → out-Value v ≡ Value-F.Str t → v ≡ value.Str t
is-Str v t h = sym (roll_out v) ∙ ap roll-Value h ∙ value.rolls-Str t

pub is-Sym : (v : Value) (t : List ℕ) → out-Value v ≡ Value-F.Sym t → v ≡ value.Sym t
is-Sym v t h = sym (roll_out v) ∙ ap roll-Value h ∙ value.rolls-Sym t

pub is-List : (v : Value) (all : List Value) → out-Value v ≡ Value-F.List all → v ≡ value.List all
is-List v all h = sym (roll_out v) ∙ ap roll-Value h ∙ value.rolls-List all

pub is-Map : (v : Value) (all : List (Value × Value)) → out-Value v ≡ Value-F.Map all → v ≡ value.Map all
is-Map v all h = sym (roll_out v) ∙ ap roll-Value h ∙ value.rolls-Map all

pub spelling-Nil : spelling_of value.Nil ≡ 0xc0 ∷ []
unfolding spelling_of
spelling-Nil = ap (fold-Value (List ℕ) spelling_step) (sym value.rolls-Nil) ∙ fold-roll-Value (List ℕ) spelling_step Value-F.Nil

pub spelling-Bool : (b : Bool) → spelling_of (value.Bool b) ≡ (cond b 0xc3 0xc2) ∷ []
unfolding spelling_of
spelling-Bool b = ap (fold-Value (List ℕ) spelling_step) (sym (value.rolls-Bool b)) ∙ fold-roll-Value (List ℕ) spelling_step (Value-F.Bool b)

pub spelling-pos : (n : ℕ) → spelling_of (value.Int (pos n)) ≡ natural n
unfolding spelling_of
spelling-pos n = ap (fold-Value (List ℕ) spelling_step) (sym (value.rolls-Int (pos n))) ∙ fold-roll-Value (List ℕ) spelling_step (Value-F.Int (pos n))

pub spelling-negsuc : (n : ℕ) → spelling_of (value.Int (negsuc n)) ≡ negative n
unfolding spelling_of
spelling-negsuc n = ap (fold-Value (List ℕ) spelling_step) (sym (value.rolls-Int (negsuc n))) ∙ fold-roll-Value (List ℕ) spelling_step (Value-F.Int (negsuc n))

pub spelling-Str : (t : List ℕ) → spelling_of (value.Str t) ≡ str_head (length t) ++ t
unfolding spelling_of
spelling-Str t = ap (fold-Value (List ℕ) spelling_step) (sym (value.rolls-Str t)) ∙ fold-roll-Value (List ℕ) spelling_step (Value-F.Str t)

pub spelling-Sym : (t : List ℕ) → spelling_of (value.Sym t) ≡ sym_head (length t) ++ 0 ∷ t
unfolding spelling_of
spelling-Sym t = ap (fold-Value (List ℕ) spelling_step) (sym (value.rolls-Sym t)) ∙ fold-roll-Value (List ℕ) spelling_step (Value-F.Sym t)

pub spelling-List : (all : List Value) → spelling_of (value.List all) ≡ list_head (length (map spelling_of all)) ++ concat (map spelling_of all)
unfolding spelling_of
spelling-List all = ap (fold-Value (List ℕ) spelling_step) (sym (value.rolls-List all)) ∙ fold-roll-Value (List ℕ) spelling_step (Value-F.List all)

abbrev pub spellings_of : Value × Value → List ℕ × List ℕ
spellings_of p = (spelling_of p.0, spelling_of p.1)

abbrev pub pair_spelling : List ℕ × List ℕ → List ℕ
pair_spelling p = p.0 ++ p.1

pub spelling-Map : (all : List (Value × Value)) → spelling_of (value.Map all) ≡ map_head (length (map spellings_of all)) ++ concat (map pair_spelling (map spellings_of all))
unfolding spelling_of
spelling-Map all = ap (fold-Value (List ℕ) spelling_step) (sym (value.rolls-Map all)) ∙ fold-roll-Value (List ℕ) spelling_step (Value-F.Map all)
