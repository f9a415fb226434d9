use Rattle.std.proofs.Common.{rules, ◌≡◌, ◌∙◌, ℕ, ◌-◌, ◌<◌, ◌≤◌, ◌^◌, ◌++◌, ◌∷◌, List, length, map, ap, subst, sym, arith, append_assoc, FitsSigned, w64, to_z, of_z}
use Rattle.std.proofs.lemmas.Int.{ints}
use Rattle.std.specs.List.{AllByRecursion, concat}
use Rattle.msgpack_codec.specs.declared.value.Value.{Value}
use Rattle.msgpack_codec.specs.declared.heads.Head.TheVariants as head
use Rattle.msgpack_codec.specs.Message.{spelling_of, IsSpellableScalar, IsScalar, IsBytes, FitsWithin, str_head, sym_head, list_head, map_head}
use Rattle.msgpack_codec.specs.Heads.{head_bytes}
use Rattle.msgpack_codec.specs.Writing.{pair_spelling_of, PairFits}
use Rattle.msgpack_codec.proofs.Equations.{spelling-Nil, spelling-Bool, spelling-Str, spelling-Sym}
use Rattle.msgpack_codec.proofs.Written.{list_asked, map_asked, str_asked, sym_asked, nil_ranges, bool_ranges, int_ranges, str_ranges, sym_ranges, list_ranges, map_ranges, int_written, list_written, map_written}
use Rattle.msgpack_codec.proofs.encoding.+push_values.Goals as goal

pub push_value-push_text-requires : goal.push_value-push_text-requires
push_value-push_text-requires t c = subst (λ (w : List ℕ). length w < 2 ^ 32) (sym c.as_slice.ensures) (str_asked c.args.levels c.in-Str.text (subst (FitsWithin IsSpellableScalar c.args.levels) c.in-Str.is c.requires))

pub push_value-push_symbol-requires : goal.push_value-push_symbol-requires
push_value-push_symbol-requires t c = subst (λ (w : List ℕ). length w < 2 ^ 32) (sym c.as_slice-in-Sym.ensures) (sym_asked c.args.levels c.in-Sym.name (subst (FitsWithin IsSpellableScalar c.args.levels) c.in-Sym.is c.requires))

pub push_value-overflow_cast-len : goal.push_value-overflow_cast-len
push_value-overflow_cast-len t c = let few : length c.in-List.items < 2 ^ 32 = (list_asked c.args.levels c.in-List.items (subst (FitsWithin IsSpellableScalar c.args.levels) c.in-List.is c.requires)).count in omega arith

pub push_value-overflow_cast-len-in-Map : goal.push_value-overflow_cast-len-in-Map
push_value-overflow_cast-len-in-Map t c = let few : length c.in-Map.pairs < 2 ^ 32 = (map_asked c.args.levels c.in-Map.pairs (subst (FitsWithin IsSpellableScalar c.args.levels) c.in-Map.is c.requires)).count in omega arith

pub push_value-overflow_sub-levels : goal.push_value-overflow_sub-levels
push_value-overflow_sub-levels t c = (list_asked c.args.levels c.in-List.items (subst (FitsWithin IsSpellableScalar c.args.levels) c.in-List.is c.requires)).deep

pub push_value-overflow_sub-levels-in-Map : goal.push_value-overflow_sub-levels-in-Map
push_value-overflow_sub-levels-in-Map t c = (map_asked c.args.levels c.in-Map.pairs (subst (FitsWithin IsSpellableScalar c.args.levels) c.in-Map.is c.requires)).deep

pub push_value-push_items-requires : goal.push_value-push_items-requires
push_value-push_items-requires t c =
    let deep : 1 ≤ c.args.levels = (list_asked c.args.levels c.in-List.items (subst (FitsWithin IsSpellableScalar c.args.levels) c.in-List.is c.requires)).deep in
    (omega arith, subst (AllByRecursion (FitsWithin IsSpellableScalar (c.args.levels - 1))) (sym c.as_slice-in-List.ensures) (list_asked c.args.levels c.in-List.items (subst (FitsWithin IsSpellableScalar c.args.levels) c.in-List.is c.requires)).each)

pub push_value-push_pairs-requires : goal.push_value-push_pairs-requires
push_value-push_pairs-requires t c =
    let deep : 1 ≤ c.args.levels = (map_asked c.args.levels c.in-Map.pairs (subst (FitsWithin IsSpellableScalar c.args.levels) c.in-Map.is c.requires)).deep in
    (omega arith, subst (AllByRecursion (PairFits IsSpellableScalar (c.args.levels - 1))) (sym c.as_slice-in-Map.ensures) (map_asked c.args.levels c.in-Map.pairs (subst (FitsWithin IsSpellableScalar c.args.levels) c.in-Map.is c.requires)).each)

pub push_value-returns-in_ok-push_head-in-Nil-clause-bytes : goal.push_value-returns-in_ok-push_head-in-Nil-clause-bytes
push_value-returns-in_ok-push_head-in-Nil-clause-bytes t c = c.in_ok-push_head-in-Nil.ensures ∙ ap (λ s. c.args.out.now.items ++ s) (sym (ap spelling_of c.in-Nil.is ∙ spelling-Nil))

pub push_value-returns-in_ok-push_head-in-Nil-clause-ranges : goal.push_value-returns-in_ok-push_head-in-Nil-clause-ranges
push_value-returns-in_ok-push_head-in-Nil-clause-ranges t c = subst (FitsWithin IsScalar c.args.levels) (sym c.in-Nil.is) (nil_ranges c.args.levels)

pub push_value-returns-in_ok-push_head-in-Bool-clause-bytes : goal.push_value-returns-in_ok-push_head-in-Bool-clause-bytes
push_value-returns-in_ok-push_head-in-Bool-clause-bytes t c = c.in_ok-push_head-in-Bool.ensures ∙ ap (λ s. c.args.out.now.items ++ s) (sym (ap spelling_of c.in-Bool.is ∙ spelling-Bool c.in-Bool.truth))

pub push_value-returns-in_ok-push_head-in-Bool-clause-ranges : goal.push_value-returns-in_ok-push_head-in-Bool-clause-ranges
push_value-returns-in_ok-push_head-in-Bool-clause-ranges t c = subst (FitsWithin IsScalar c.args.levels) (sym c.in-Bool.is) (bool_ranges c.args.levels c.in-Bool.truth)

pub push_value-returns-in_ok-push_head-in-Int-clause-bytes : goal.push_value-returns-in_ok-push_head-in-Int-clause-bytes
push_value-returns-in_ok-push_head-in-Int-clause-bytes t c =
    let fits : FitsSigned w64 c.in-Int.number = search rules in
    let same : to_z w64 (of_z w64 c.in-Int.number) ≡ c.in-Int.number = omega (arith, ints) in
    c.in_ok-push_head-in-Int.ensures ∙ ap (λ z. c.args.out.now.items ++ head_bytes (head.Int z)) same ∙ ap (λ s. c.args.out.now.items ++ s) (sym (ap spelling_of c.in-Int.is ∙ int_written c.in-Int.number))

pub push_value-returns-in_ok-push_head-in-Int-clause-ranges : goal.push_value-returns-in_ok-push_head-in-Int-clause-ranges
push_value-returns-in_ok-push_head-in-Int-clause-ranges t c =
    let fits : FitsSigned w64 c.in-Int.number = search rules in
    subst (FitsWithin IsScalar c.args.levels) (sym c.in-Int.is) (int_ranges c.args.levels c.in-Int.number fits)

pub push_value-returns-in_ok-push_text-in-Str-clause-bytes : goal.push_value-returns-in_ok-push_text-in-Str-clause-bytes
push_value-returns-in_ok-push_text-in-Str-clause-bytes t c =
    c.in_ok-push_text-in-Str.ensures.written
    ∙ ap (λ t. c.args.out.now.items ++ (str_head (length t) ++ t)) c.as_slice.ensures
    ∙ ap (λ s. c.args.out.now.items ++ s) (sym (ap spelling_of c.in-Str.is ∙ spelling-Str c.in-Str.text))

pub push_value-returns-in_ok-push_text-in-Str-clause-ranges : goal.push_value-returns-in_ok-push_text-in-Str-clause-ranges
push_value-returns-in_ok-push_text-in-Str-clause-ranges t c = subst (FitsWithin IsScalar c.args.levels) (sym c.in-Str.is) (str_ranges c.args.levels c.in-Str.text (str_asked c.args.levels c.in-Str.text (subst (FitsWithin IsSpellableScalar c.args.levels) c.in-Str.is c.requires)) (subst IsBytes c.as_slice.ensures c.in_ok-push_text-in-Str.ensures.small))

pub push_value-returns-in_ok-push_symbol-in-Sym-clause-bytes : goal.push_value-returns-in_ok-push_symbol-in-Sym-clause-bytes
push_value-returns-in_ok-push_symbol-in-Sym-clause-bytes t c =
    c.in_ok-push_symbol-in-Sym.ensures.written
    ∙ ap (λ t. c.args.out.now.items ++ (sym_head (length t) ++ 0 ∷ t)) c.as_slice-in-Sym.ensures
    ∙ ap (λ s. c.args.out.now.items ++ s) (sym (ap spelling_of c.in-Sym.is ∙ spelling-Sym c.in-Sym.name))

pub push_value-returns-in_ok-push_symbol-in-Sym-clause-ranges : goal.push_value-returns-in_ok-push_symbol-in-Sym-clause-ranges
push_value-returns-in_ok-push_symbol-in-Sym-clause-ranges t c = subst (FitsWithin IsScalar c.args.levels) (sym c.in-Sym.is) (sym_ranges c.args.levels c.in-Sym.name (sym_asked c.args.levels c.in-Sym.name (subst (FitsWithin IsSpellableScalar c.args.levels) c.in-Sym.is c.requires)) (subst IsBytes c.as_slice-in-Sym.ensures c.in_ok-push_symbol-in-Sym.ensures.small))

pub push_value-returns-in_ok-push_items-in-List-clause-bytes : goal.push_value-returns-in_ok-push_items-in-List-clause-bytes
push_value-returns-in_ok-push_items-in-List-clause-bytes t c =
    c.in_ok-push_items-in-List.ensures.bytes
    ∙ ap (λ w. w ++ concat (map spelling_of c.as_slice-in-List.result.now)) (c.in_ok-push_head-in-List.ensures ∙ ap (λ n. c.args.out.now.items ++ list_head n) c.len.ensures)
    ∙ ap (λ (all : List Value). (c.args.out.now.items ++ list_head (length c.in-List.items)) ++ concat (map spelling_of all)) c.as_slice-in-List.ensures
    ∙ append_assoc c.args.out.now.items (list_head (length c.in-List.items)) (concat (map spelling_of c.in-List.items))
    ∙ ap (λ s. c.args.out.now.items ++ s) (sym (ap spelling_of c.in-List.is ∙ list_written c.in-List.items))

pub push_value-returns-in_ok-push_items-in-List-clause-ranges : goal.push_value-returns-in_ok-push_items-in-List-clause-ranges
push_value-returns-in_ok-push_items-in-List-clause-ranges t c = subst (FitsWithin IsScalar c.args.levels) (sym c.in-List.is) (list_ranges c.args.levels c.in-List.items (list_asked c.args.levels c.in-List.items (subst (FitsWithin IsSpellableScalar c.args.levels) c.in-List.is c.requires)) (subst (AllByRecursion (FitsWithin IsScalar (c.args.levels - 1))) c.as_slice-in-List.ensures c.in_ok-push_items-in-List.ensures.ranges))

pub push_value-returns-in_ok-push_pairs-in-Map-clause-bytes : goal.push_value-returns-in_ok-push_pairs-in-Map-clause-bytes
push_value-returns-in_ok-push_pairs-in-Map-clause-bytes t c =
    c.in_ok-push_pairs-in-Map.ensures.bytes
    ∙ ap (λ w. w ++ concat (map pair_spelling_of c.as_slice-in-Map.result.now)) (c.in_ok-push_head-in-Map.ensures ∙ ap (λ n. c.args.out.now.items ++ map_head n) c.len-in-Map.ensures)
    ∙ ap (λ (all : List (Value × Value)). (c.args.out.now.items ++ map_head (length c.in-Map.pairs)) ++ concat (map pair_spelling_of all)) c.as_slice-in-Map.ensures
    ∙ append_assoc c.args.out.now.items (map_head (length c.in-Map.pairs)) (concat (map pair_spelling_of c.in-Map.pairs))
    ∙ ap (λ s. c.args.out.now.items ++ s) (sym (ap spelling_of c.in-Map.is ∙ map_written c.in-Map.pairs))

pub push_value-returns-in_ok-push_pairs-in-Map-clause-ranges : goal.push_value-returns-in_ok-push_pairs-in-Map-clause-ranges
push_value-returns-in_ok-push_pairs-in-Map-clause-ranges t c = subst (FitsWithin IsScalar c.args.levels) (sym c.in-Map.is) (map_ranges c.args.levels c.in-Map.pairs (map_asked c.args.levels c.in-Map.pairs (subst (FitsWithin IsSpellableScalar c.args.levels) c.in-Map.is c.requires)) (subst (AllByRecursion (PairFits IsScalar (c.args.levels - 1))) c.as_slice-in-Map.ensures c.in_ok-push_pairs-in-Map.ensures.ranges))
