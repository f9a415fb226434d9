-- The bodies of a dump stand where its index says.
use Rattle.std.proofs.Common.{◌≡◌, ℕ, zero, suc, ◌+◌, List, [], ◌∷◌, ◌++◌, length, take, drop, Some, refl, sym, ap, subst, ◌∙◌, append_assoc, arith}
use Rattle.std.specs.Prelude.{slice_get}
use Rattle.std.specs.List.{flat_map, AllByRecursion}
use Rattle.std.proofs.lemmas.List.{length-append, append-nil, take_at, drop_at, take-append-drop, length-drop, length-map, drop-drop, nil_from_length}
use Rattle.std.proofs.lemmas.List.Elements.{recursion_from_All}
use Rattle.std.proofs.lemmas.Option.{same_Some, slice_get-get_or}
use Rattle.iseq_types.specs.Index.{AreIndexRows}
use Rattle.iseq_types.specs.Sound.{IsSound, SeqIsRight}
use Rattle.iseq_types.specs.declared.sequences.CatchKind.{CatchKind}
use Rattle.iseq_types.specs.declared.sequences.CatchKind.TheVariants as catches
use Rattle.iseq_types.specs.declared.sequences.IndexRow.{IndexRow}
use Rattle.iseq_types.specs.declared.sequences.Sequence.{Sequence}
use Rattle.iseq_types.specs.declared.sequences.Unit.{Unit as CompiledUnit}
use Rattle.iseq_dump.specs.declared.head.Entry.{Entry}
use Rattle.iseq_dump.specs.declared.head.Head.{Head}
use Rattle.iseq_dump.specs.Dump.{AllowsSequence, AreTiled, CanBeDumped, HasBody, HasSoundBodies, IsAllowedBody, IsAllowedRow, IsBody, IsHead, IsNumber, Spells, body_bytes, end_of, entries_of, head_bytes, head_length, head_of, lengths_of, rows_of, unit_of}
use Rattle.iseq_dump.specs.Reading.{bodies_at}
use Rattle.iseq_dump.proofs.Exact.{found}
use Rattle.iseq_dump.proofs.Units.{bodies_again, entries_back, head_long, length-entries, length-lengths, lengths, unit_given}

-- a body behind others
body_at_entry : (before : List ℕ) (place : ℕ) (rows : List IndexRow) (bs : List Sequence) (id : ℕ) (entry : Entry) (body : Sequence) → place ≡ length before → AllByRecursion IsBody bs → slice_get (entries_of place rows (lengths_of bs)) id ≡ Some entry → slice_get bs id ≡ Some body → HasBody (before ++ flat_map body_bytes bs) entry body
body_at_entry before place [] [] id entry body p fits e b = absurd (cc e)
body_at_entry before place [] (x ∷ bs) id entry body p fits e b = absurd (cc e)
body_at_entry before place (row ∷ rows) [] id entry body p fits e b = absurd (cc b)
body_at_entry before place (row ∷ rows) (x ∷ bs) zero entry body p fits e b =
    let n = length (body_bytes x) in
    let here : Entry = record { row = row; place = place; length = n } in
    let rest = flat_map body_bytes bs in
    let all = before ++ (body_bytes x ++ rest) in
    let dropped : drop place all ≡ body_bytes x ++ rest = drop_at before (body_bytes x ++ rest) place (sym p) in
    let made : HasBody all here x = record {
      fits = fits.0;
      long = refl;
      inside = omega (arith, p, length-append before (body_bytes x ++ rest), length-append (body_bytes x) rest);
      spelled = ap (take n) dropped ∙ take_at (body_bytes x) rest n refl;
    } in
    subst (λ (y : Sequence). HasBody all entry y) (same_Some x body b) (subst (λ (y : Entry). HasBody all y x) (same_Some here entry e) made)
body_at_entry before place (row ∷ rows) (x ∷ bs) (suc id) entry body p fits e b =
    subst (λ (bytes : List ℕ). HasBody bytes entry body) (append_assoc before (body_bytes x) (flat_map body_bytes bs)) (body_at_entry (before ++ body_bytes x) (place + length (body_bytes x)) rows bs id entry body (omega (arith, p, length-append before (body_bytes x))) fits.1 e b)

pub placed_body : (u : CompiledUnit) (bytes : List ℕ) (id : ℕ) (entry : Entry) (body : Sequence) → Spells u bytes → slice_get (head_of u).entries id ≡ Some entry → slice_get u.bodies id ≡ Some body → HasBody bytes entry body
unfolding head_of
placed_body u bytes id entry body s e b =
    let place = head_length u.path (length u.rows) in
    let count : length (head_of u).entries ≡ length u.rows = length-entries place u.rows (lengths_of u.bodies) (length-lengths u.bodies ∙ s.bodies) in
    let long : place ≡ length (head_bytes (head_of u)) = sym (head_long (head_of u) ∙ ap (head_length u.path) count) in
    subst (λ (all : List ℕ). HasBody all entry body) (sym s.spelled) (body_at_entry (head_bytes (head_of u)) place u.rows u.bodies id entry body long s.each e b)

pub entries_count : (u : CompiledUnit) (bytes : List ℕ) → Spells u bytes → length (head_of u).entries ≡ length u.bodies
unfolding head_of
entries_count u bytes s =
    length-entries (head_length u.path (length u.rows)) u.rows (lengths_of u.bodies) (length-lengths u.bodies ∙ s.bodies) ∙ sym s.bodies

-- ---- and back

bodies_of_entries : (bytes : List ℕ) (place : ℕ) (entries : List Entry) (bs : List Sequence) → AreTiled place entries → length bytes ≡ end_of place entries → length bs ≡ length entries → ((id : ℕ) (entry : Entry) (body : Sequence) → slice_get entries id ≡ Some entry → slice_get bs id ≡ Some body → HasBody bytes entry body) → (drop place bytes ≡ flat_map body_bytes bs) × AllByRecursion IsBody bs × (lengths_of bs ≡ lengths entries)
bodies_of_entries bytes place [] [] tiled ends e each = (nil_from_length (drop place bytes) (omega (arith, length-drop place bytes, ends)), tt, refl)
bodies_of_entries bytes place [] (b ∷ bs) tiled ends e each = absurd (omega (arith, e))
bodies_of_entries bytes place (entry ∷ entries) [] tiled ends e each = absurd (omega (arith, e))
bodies_of_entries bytes place (entry ∷ entries) (b ∷ bs) tiled ends e each =
    let n = entry.length in
    let here = each 0 entry b refl refl in
    let others = bodies_of_entries bytes (place + n) entries bs tiled.1 ends (omega (arith, e)) (λ id x y at is. each (suc id) x y at is) in
    let first : take n (drop place bytes) ≡ body_bytes b = ap (λ (p : ℕ). take n (drop p bytes)) (sym tiled.0) ∙ here.spelled in
    let rest : drop n (drop place bytes) ≡ flat_map body_bytes bs = drop-drop n place bytes ∙ others.0 in
    let whole : drop place bytes ≡ body_bytes b ++ flat_map body_bytes bs = sym (take-append-drop n (drop place bytes)) ∙ (ap (λ (xs : List ℕ). xs ++ drop n (drop place bytes)) first ∙ ap (λ (xs : List ℕ). body_bytes b ++ xs) rest) in
    (whole, (here.fits, others.1), ap (λ (m : ℕ). m ∷ lengths_of bs) (sym here.long) ∙ ap (λ (ms : List ℕ). n ∷ ms) others.2)

pub whole_dump : (h : Head) (bs : List Sequence) (bytes rest : List ℕ) → IsHead h → bytes ≡ head_bytes h ++ rest → length bytes ≡ end_of (length (head_bytes h)) h.entries → length bs ≡ length h.entries → ((id : ℕ) (entry : Entry) (body : Sequence) → slice_get h.entries id ≡ Some entry → slice_get bs id ≡ Some body → HasBody bytes entry body) → Spells (unit_of h bs) bytes
whole_dump h bs bytes rest fits e ends count each =
    let place = length (head_bytes h) in
    let parts = bodies_of_entries bytes place h.entries bs fits.tiled ends count each in
    let behind : rest ≡ flat_map body_bytes bs = sym (ap (drop place) e ∙ drop_at (head_bytes h) rest place refl) ∙ parts.0 in
    let rows_count : length bs ≡ length (rows_of h.entries) = count ∙ sym (length-map h.entries (λ (x : Entry). x.row)) in
    let again : bodies_at (entries_of place (rows_of h.entries) (lengths_of bs)) (flat_map body_bytes bs ++ []) ≡ found bs [] = bodies_again place (rows_of h.entries) bs [] rows_count parts.1 in
    let same : entries_of place (rows_of h.entries) (lengths_of bs) ≡ h.entries = entries_back place h.entries (lengths_of bs) fits.tiled parts.2 in
    let given : bodies_at h.entries rest ≡ found bs [] = ap (bodies_at h.entries) (behind ∙ sym (append-nil (flat_map body_bytes bs))) ∙ (ap (λ (es : List Entry). bodies_at es (flat_map body_bytes bs ++ [])) (sym same) ∙ again) in
    unit_given h bytes rest bs [] fits e given refl (subst IsNumber (sym ends) fits.ends)

-- ---- what can be dumped

row_allowed : (rows : List IndexRow) (id : ℕ) (kind : CatchKind) (seq : ℕ) → SeqIsRight rows id kind seq → AllowsSequence kind seq
row_allowed rows id catches.Rescue seq right = tt
row_allowed rows id catches.Ensure seq right = tt
row_allowed rows id catches.Break seq right = right
row_allowed rows id catches.Next seq right = right

sound_allowed : (body : Sequence) (rows : List IndexRow) (id : ℕ) → IsSound body rows id → IsAllowedBody body
sound_allowed body rows id sound =
    recursion_from_All IsAllowedRow body.rows (λ k d l. row_allowed rows id _ _ (sound.children.catches k d l))

pub sound_dumped : (u : CompiledUnit) → AreIndexRows u.rows → length u.bodies ≡ length u.rows → HasSoundBodies u → CanBeDumped u
sound_dumped u rows count sound = record {
  rows = rows;
  bodies = count;
  sequences = recursion_from_All IsAllowedBody u.bodies (λ k d l. sound_allowed _ u.rows k (sound k _ (slice_get-get_or u.bodies k d l)));
}
