-- Putting the header, the index and the bodies, one behind the other.
use Rattle.std.proofs.Common.{◌≡◌, ℕ, ◌+◌, ◌*◌, ◌<◌, ◌≤◌, List, [], ◌∷◌, ◌++◌, length, take, drop, get_or, All, Option, Some, None, refl, sym, ap, subst, ◌∙◌, append_assoc, drop-cons, add-one, arith}
use Rattle.std.specs.Prelude.{IfSome}
use Rattle.std.specs.Option.{SomeIff}
use Rattle.std.specs.List.{flat_map, AllByRecursion}
use Rattle.std.proofs.lemmas.List.{take_more, take_all, drop_all, length-append, append-nil, map_push, flat_map_more}
use Rattle.std.proofs.lemmas.List.Elements.{recursion_from_All, All-more}
use Rattle.iseq_types.specs.Index.{AreIndexRows}
use Rattle.iseq_types.specs.declared.sequences.Sequence.{Sequence}
use Rattle.iseq_types.specs.declared.sequences.IndexRow.{IndexRow}
use Rattle.iseq_types.specs.declared.sequences.Unit.{Unit as CompiledUnit}
use Rattle.iseq_dump.specs.declared.head.Entry.{Entry}
use Rattle.iseq_dump.specs.Dump.{Puts, IsNumber, IsText, IsBody, IsEntry, number_bytes, text_bytes, body_bytes, entry_bytes, entries_of, lengths_of, head_length, head_of, Spells}
use Rattle.iseq_dump.specs.Reading.{mark}
use Rattle.iseq_dump.proofs.Exact.{some_is}
use Rattle.iseq_dump.proofs.Units.{length-entries, length-lengths}

-- ---- bodies

pub bodies_more : (bodies : List Sequence) (i : ℕ) (here : Sequence) (first old new : List ℕ) → i < length bodies → here ≡ get_or bodies i here → Puts IsBody body_bytes here old new → old ≡ first ++ flat_map body_bytes (take i bodies) → new ≡ first ++ flat_map body_bytes (take (i + 1) bodies)
bodies_more bodies i here first old new lt is put so_far =
    put.spelled ∙ (ap (λ (bs : List ℕ). bs ++ body_bytes here) so_far ∙ (flat_map_more body_bytes first (take i bodies) here ∙ ap (λ (bs : List Sequence). first ++ flat_map body_bytes bs) (ap (λ (b : Sequence). take i bodies ++ b ∷ []) is ∙ sym (take_more bodies i here lt))))

pub lengths_more : (bodies : List Sequence) (i : ℕ) (here : Sequence) (lens after : List ℕ) (n : ℕ) → i < length bodies → here ≡ get_or bodies i here → n ≡ length (body_bytes here) → lens ≡ lengths_of (take i bodies) → after ≡ lens ++ n ∷ [] → after ≡ lengths_of (take (i + 1) bodies)
lengths_more bodies i here lens after n lt is len so_far e =
    let size : Sequence → ℕ = λ b. length (body_bytes b) in
    e ∙ (ap (λ (m : ℕ). lens ++ m ∷ []) len ∙ (ap (λ (ns : List ℕ). ns ++ size here ∷ []) so_far ∙ (sym (map_push size (take i bodies) here) ∙ ap lengths_of (ap (λ (b : Sequence). take i bodies ++ b ∷ []) is ∙ sym (take_more bodies i here lt)))))

pub put_long : (here : Sequence) (old new : List ℕ) → Puts IsBody body_bytes here old new → length new ≡ length old + length (body_bytes here)
put_long here old new put = ap length put.spelled ∙ length-append old (body_bytes here)

pub each_more : (bodies : List Sequence) (i : ℕ) (here : Sequence) → i < length bodies → here ≡ get_or bodies i here → IsBody here → All IsBody (take i bodies) → All IsBody (take (i + 1) bodies)
each_more bodies i here lt is fits all = All-more IsBody bodies i here lt all (subst IsBody is fits)

pub all_of : {X : Type 0} (P : X → Type 0) (xs : List X) (i : ℕ) → length xs ≤ i → All P (take i xs) → AllByRecursion P xs
all_of {X} P xs i le all = recursion_from_All P xs (subst (λ (ys : List X). All P ys) (take_all i xs le) all)

-- ---- the index

pub some_if : (o : Option ℕ) (P : Type 0) (v x : ℕ) → SomeIff o P v → o ≡ Some x → x ≡ v
some_if None P v x h e = absurd cc
some_if (Some y) P v x h e = sym (some_is y x e) ∙ h.1

pub index_more : (rows : List IndexRow) (lens : List ℕ) (i : ℕ) (d : IndexRow) (place next : ℕ) (old new whole : List ℕ) → i < length rows → length lens ≡ length rows → next ≡ place + get_or lens i 0
    → Puts IsEntry entry_bytes (record { row = get_or rows i d; place = place; length = get_or lens i 0 }) old new
    → old ++ flat_map entry_bytes (entries_of place (drop i rows) (drop i lens)) ≡ whole → new ++ flat_map entry_bytes (entries_of next (drop (i + 1) rows) (drop (i + 1) lens)) ≡ whole
index_more rows lens i d place next old new whole lt same e put so_far =
    let n = get_or lens i 0 in
    let entry : Entry = record { row = get_or rows i d; place = place; length = n } in
    let front_rows : drop i rows ≡ get_or rows i d ∷ drop (i + 1) rows = rw (add-one, drop-cons rows i d) refl in
    let short : i < length lens = omega arith in
    let front_lens : drop i lens ≡ n ∷ drop (i + 1) lens = rw (add-one, drop-cons lens i 0) refl in
    let others : List Entry = entries_of next (drop (i + 1) rows) (drop (i + 1) lens) in
    let made : entries_of place (drop i rows) (drop i lens) ≡ entry ∷ others =
    ap (λ (rs : List IndexRow). entries_of place rs (drop i lens)) front_rows ∙ (ap (entries_of place (get_or rows i d ∷ drop (i + 1) rows)) front_lens ∙ ap (λ (p : ℕ). entry ∷ entries_of p (drop (i + 1) rows) (drop (i + 1) lens)) (sym e)) in
    ap (λ (bs : List ℕ). bs ++ flat_map entry_bytes others) put.spelled ∙ (append_assoc old (entry_bytes entry) (flat_map entry_bytes others) ∙ (ap (λ (es : List Entry). old ++ flat_map entry_bytes es) (sym made) ∙ so_far))

pub index_done : (rows : List IndexRow) (lens : List ℕ) (i place : ℕ) (out whole : List ℕ) → length rows ≤ i → out ++ flat_map entry_bytes (entries_of place (drop i rows) (drop i lens)) ≡ whole → out ≡ whole
index_done rows lens i place out whole le so_far =
    let none : entries_of place (drop i rows) (drop i lens) ≡ [] = ap (λ (rs : List IndexRow). entries_of place rs (drop i lens)) (drop_all i rows le) in
    sym (append-nil out) ∙ (ap (λ (es : List Entry). out ++ flat_map entry_bytes es) (sym none) ∙ so_far)

-- ---- the unit

regrouped : (a b c d : List ℕ) → ((a ++ b) ++ c) ++ d ≡ a ++ (b ++ (c ++ d))
regrouped a b c d = simp append_assoc

pub unit_put : (u : CompiledUnit) (lens bodies o1 o2 o3 o4 o5 : List ℕ) (first : ℕ) → AreIndexRows u.rows → length u.bodies ≡ length u.rows → lens ≡ lengths_of u.bodies → bodies ≡ flat_map body_bytes u.bodies → AllByRecursion IsBody u.bodies
    → AllByRecursion (λ (row : IndexRow). IsNumber row.locals) u.rows → IsNumber (length u.rows) → IsNumber (length o5) → o1 ≡ mark → Puts IsText text_bytes u.path o1 o2 → o3 ≡ o2 ++ number_bytes (length u.rows) → first ≡ length o3 + 33 * length u.rows
    → o4 ≡ o3 ++ flat_map entry_bytes (entries_of first u.rows lens) → o5 ≡ o4 ++ bodies → Spells u o5
unfolding head_of head_length
unit_put u lens bodies o1 o2 o3 o4 o5 first rows same sizes bodies_are each locals count small e1 path e3 place e4 e5 =
    let t = text_bytes u.path in
    let n = number_bytes (length u.rows) in
    let length_o3 : length o3 ≡ 4 + length t + length n = omega (arith, ap length e3, length-append o2 n, ap length path.spelled, length-append o1 t, ap length e1) in
    let begins : first ≡ head_length u.path (length u.rows) = omega (arith, place, length_o3) in
    let entries = entries_of (head_length u.path (length u.rows)) u.rows (lengths_of u.bodies) in
    let entries_is : entries_of first u.rows lens ≡ entries = ap (λ (p : ℕ). entries_of p u.rows lens) begins ∙ ap (entries_of (head_length u.path (length u.rows)) u.rows) sizes in
    let long : length entries ≡ length u.rows = length-entries (head_length u.path (length u.rows)) u.rows (lengths_of u.bodies) (length-lengths u.bodies ∙ same) in
    let es = flat_map entry_bytes entries in
    let head : o4 ≡ mark ++ (t ++ (number_bytes (length entries) ++ es)) =
    e4 ∙ (ap (λ (xs : List Entry). o3 ++ flat_map entry_bytes xs) entries_is ∙ (ap (λ (bs : List ℕ). bs ++ es) (e3 ∙ ap (λ (bs : List ℕ). bs ++ n) (path.spelled ∙ ap (λ (bs : List ℕ). bs ++ t) e1))
    ∙ (regrouped mark t n es ∙ ap (λ (k : ℕ). mark ++ (t ++ (number_bytes k ++ es))) (sym long)))) in
    record {
      rows = rows;
      bodies = same;
      path = path.fits;
      count = count;
      locals = locals;
      each = each;
      small = small;
      spelled = e5 ∙ (ap (λ (bs : List ℕ). bs ++ bodies) head ∙ ap (λ (bs : List ℕ). (mark ++ (t ++ (number_bytes (length entries) ++ es))) ++ bs) bodies_are);
    }

pub if_some : (o : Option ℕ) (P : ℕ → Type 0) (x : ℕ) → IfSome o P → o ≡ Some x → P x
if_some None P x h e = absurd cc
if_some (Some y) P x h e = subst P (some_is y x e) h
