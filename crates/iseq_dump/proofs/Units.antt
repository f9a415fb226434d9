-- The dump of a unit: its header, and the bodies behind it.
use Rattle.std.proofs.Common.{◌≡◌, ℕ, zero, suc, ◌+◌, ◌*◌, ◌^◌, ◌<◌, ◌≤◌, cond, eqb, List, [], ◌∷◌, ◌++◌, length, take, drop, get_or, Some, None, Err, refl, sym, ap, subst, ◌∙◌, append_assoc, arith}
use Rattle.std.specs.Prelude.{nat_lt, map, slice_get}
use Rattle.std.specs.List.{flat_map, AllByRecursion}
use Rattle.std.proofs.lemmas.Bool.{ltb-false, eqb-true}
use Rattle.std.proofs.lemmas.List.{length-append, append-nil, take_at, drop_at, take-append-drop, length-take, length-drop, take_all, nil_from_length, length-map}
use Rattle.std.proofs.lemmas.List.Elements.{recursion_from_All}
use Rattle.iseq_types.specs.Index.{IsIndexRow, AreIndexRows}
use Rattle.iseq_types.specs.declared.sequences.Sequence.{Sequence}
use Rattle.iseq_types.specs.declared.sequences.IndexRow.{IndexRow}
use Rattle.iseq_types.specs.declared.sequences.Unit.{Unit as CompiledUnit}
use Rattle.iseq_dump.specs.declared.fault.ReadError.{ReadError}
use Rattle.iseq_dump.specs.declared.fault.ReadError.TheVariants.{Memory, NotSpelled}
use Rattle.iseq_dump.specs.declared.head.Entry.{Entry}
use Rattle.iseq_dump.specs.declared.head.Head.{Head}
use Rattle.iseq_dump.specs.Dump.{IsNumber, number_bytes, text_bytes, body_bytes, IsBody, fixed_bytes, entry_bytes, IsEntry, head_bytes, IsHead, AreTiled, end_of, rows_of, entries_of, lengths_of, head_length, head_of, unit_of, Spells}
use Rattle.iseq_dump.specs.Reading.{◌▷◌, Fails, ReadsIt, IsIt, head_at, body_at, whole_at, bodies_at}
use Rattle.iseq_dump.proofs.Exact.{found, found_is, some_is, bind_some, kept_some, passed_some}
use Rattle.iseq_dump.proofs.Parts.{nothing}
use Rattle.iseq_dump.proofs.Whole.{body_exact, head_exact}
use Rattle.iseq_dump.proofs.Loads.{first_at, any_of}

-- ---- bodies

pub whole_takes : (bytes : List ℕ) (b : Sequence) → whole_at body_at bytes ≡ Some b → (bytes ≡ body_bytes b) × IsBody b
whole_takes bytes b e =
    let s = bind_some (body_at bytes) (λ (x : Sequence × List ℕ). cond (eqb (length x.1) 0) (Some x.0) None) b e in
    let k = kept_some (eqb (length s.0.1) 0) (Some s.0.0) b s.2 in
    let nil : s.0.1 ≡ [] = nil_from_length s.0.1 (eqb-true _ _ k.0) in
    let first = body_exact.takes bytes s.0.0 s.0.1 s.1 in
    let whole : bytes ≡ body_bytes s.0.0 = first.0 ∙ (ap (λ (r : List ℕ). body_bytes s.0.0 ++ r) nil ∙ append-nil (body_bytes s.0.0)) in
    subst (λ (c : Sequence). (bytes ≡ body_bytes c) × IsBody c) (some_is s.0.0 b k.1) (whole, first.1)

pub whole_again : (b : Sequence) → IsBody b → whole_at body_at (body_bytes b) ≡ Some b
whole_again b fits =
    ap (whole_at body_at) (sym (append-nil (body_bytes b))) ∙ rw (body_exact.again b [] fits) refl

abbrev pub lengths : List Entry → List ℕ
lengths entries = map (λ entry. entry.length) entries

pub bodies_takes : (entries : List Entry) (old : List ℕ) (bs : List Sequence) (new : List ℕ) → bodies_at entries old ≡ found bs new → (old ≡ flat_map body_bytes bs ++ new) × AllByRecursion IsBody bs × (lengths_of bs ≡ lengths entries)
unfolding bodies_at
bodies_takes [] old bs new e =
    let is = found_is [] bs old new e in
    subst (λ (cs : List Sequence). (old ≡ flat_map body_bytes cs ++ new) × AllByRecursion IsBody cs × (lengths_of cs ≡ [])) is.0 (is.1, tt, refl)
bodies_takes (entry ∷ entries) old bs new e =
    let n = entry.length in
    let k = passed_some (nat_lt (length old) n) (whole_at body_at (take n old) ▷ λ (body : Sequence). bodies_at entries (drop n old) ▷ λ (bodies : List Sequence × List ℕ). found (body ∷ bodies.0) bodies.1) (bs, new) e in
    let s = bind_some (whole_at body_at (take n old)) (λ (body : Sequence). bodies_at entries (drop n old) ▷ λ (bodies : List Sequence × List ℕ). found (body ∷ bodies.0) bodies.1) (bs, new) k.1 in
    let t = bind_some (bodies_at entries (drop n old)) (λ (bodies : List Sequence × List ℕ). found (s.0 ∷ bodies.0) bodies.1) (bs, new) s.2 in
    let le : n ≤ length old = ltb-false _ _ k.0 in
    let first = whole_takes (take n old) s.0 s.1 in
    let others = bodies_takes entries (drop n old) t.0.0 t.0.1 t.1 in
    let is = found_is (s.0 ∷ t.0.0) bs t.0.1 new t.2 in
    let len : length (body_bytes s.0) ≡ n = ap length (sym first.0) ∙ omega (arith, length-take n old) in
    let parts : old ≡ (body_bytes s.0 ++ flat_map body_bytes t.0.0) ++ new = sym (take-append-drop n old) ∙ (ap (λ (bytes : List ℕ). bytes ++ drop n old) first.0 ∙ (ap (λ (bytes : List ℕ). body_bytes s.0 ++ bytes) (others.0 ∙ ap (λ (r : List ℕ). flat_map body_bytes t.0.0 ++ r) is.1) ∙ sym (append_assoc (body_bytes s.0) (flat_map body_bytes t.0.0) new))) in
    let same : lengths_of (s.0 ∷ t.0.0) ≡ lengths (entry ∷ entries) = ap (λ (m : ℕ). m ∷ lengths_of t.0.0) len ∙ ap (λ (ms : List ℕ). n ∷ ms) others.2 in
    subst (λ (cs : List Sequence). (old ≡ flat_map body_bytes cs ++ new) × AllByRecursion IsBody cs × (lengths_of cs ≡ lengths (entry ∷ entries))) is.0 (parts, (first.1, others.1), same)

pub bodies_again : (place : ℕ) (rows : List IndexRow) (bs : List Sequence) (new : List ℕ) → length bs ≡ length rows → AllByRecursion IsBody bs → bodies_at (entries_of place rows (lengths_of bs)) (flat_map body_bytes bs ++ new) ≡ found bs new
unfolding bodies_at
bodies_again place [] [] new e fits = refl
bodies_again place [] (b ∷ bs) new e fits = absurd (omega arith)
bodies_again place (row ∷ rows) [] new e fits = absurd (omega arith)
bodies_again place (row ∷ rows) (b ∷ bs) new e fits =
    let n = length (body_bytes b) in
    let rest = flat_map body_bytes bs ++ new in
    let entry : Entry = record { row = row; place = place; length = n } in
    let entries = entries_of (place + n) rows (lengths_of bs) in
    let others = bodies_again (place + n) rows bs new (omega arith) fits.1 in
    let regrouped : flat_map body_bytes (b ∷ bs) ++ new ≡ body_bytes b ++ rest = append_assoc (body_bytes b) (flat_map body_bytes bs) new in
    let le : n ≤ length (body_bytes b ++ rest) = omega (arith, length-append (body_bytes b) rest) in
    ap (bodies_at (entry ∷ entries)) regrouped
    ∙ (first_at entry entries (body_bytes b ++ rest) le
    ∙ rw (take_at (body_bytes b) rest n refl, drop_at (body_bytes b) rest n refl, whole_again b fits.0, others) refl)

-- ---- the index

entry_same : (e : Entry) (place len : ℕ) → place ≡ e.place → len ≡ e.length → record { row = e.row; place = place; length = len } ≡ e
entry_same e place len p l =
    let made : ℕ → ℕ → Entry = λ a b. record { row = e.row; place = a; length = b } in
    ap (λ (a : ℕ). made a len) p ∙ ap (made e.place) l

back : (place : ℕ) (entries : List Entry) → AreTiled place entries → entries_of place (rows_of entries) (lengths entries) ≡ entries
back place [] tiled = refl
back place (e ∷ es) tiled =
    ap (λ (x : Entry). x ∷ entries_of (place + e.length) (rows_of es) (lengths es)) (entry_same e place e.length (sym tiled.0) refl)
    ∙ ap (λ (xs : List Entry). e ∷ xs) (back (place + e.length) es tiled.1)

-- an index without gaps is that of its rows and lengths
pub entries_back : (place : ℕ) (entries : List Entry) (lens : List ℕ) → AreTiled place entries → lens ≡ lengths entries → entries_of place (rows_of entries) lens ≡ entries
entries_back place entries lens tiled e = ap (entries_of place (rows_of entries)) e ∙ back place entries tiled

pub rows_back : (place : ℕ) (rows : List IndexRow) (lens : List ℕ) → length lens ≡ length rows → rows_of (entries_of place rows lens) ≡ rows
rows_back place [] [] e = refl
rows_back place [] (n ∷ lens) e = absurd (omega arith)
rows_back place (row ∷ rows) [] e = absurd (omega arith)
rows_back place (row ∷ rows) (n ∷ lens) e = ap (λ (rs : List IndexRow). row ∷ rs) (rows_back (place + n) rows lens (omega arith))

pub tiled_of : (place : ℕ) (rows : List IndexRow) (lens : List ℕ) → AreTiled place (entries_of place rows lens)
tiled_of place [] lens = tt
tiled_of place (row ∷ rows) [] = tt
tiled_of place (row ∷ rows) (n ∷ lens) = (refl, tiled_of (place + n) rows lens)

-- the lengths together
abbrev total : List ℕ → ℕ
total [] = 0
total (n ∷ ns) = n + total ns

pub end_of_entries : (place : ℕ) (rows : List IndexRow) (lens : List ℕ) → length lens ≡ length rows → end_of place (entries_of place rows lens) ≡ place + total lens
end_of_entries place [] [] e = omega arith
end_of_entries place [] (n ∷ lens) e = absurd (omega arith)
end_of_entries place (row ∷ rows) [] e = absurd (omega arith)
end_of_entries place (row ∷ rows) (n ∷ lens) e =
    let regrouped : (place + n) + total lens ≡ place + (n + total lens) = omega arith in
    end_of_entries (place + n) rows lens (omega arith) ∙ regrouped

total_lengths : (bs : List Sequence) → total (lengths_of bs) ≡ length (flat_map body_bytes bs)
total_lengths [] = refl
total_lengths (b ∷ bs) = ap (λ (n : ℕ). length (body_bytes b) + n) (total_lengths bs) ∙ sym (length-append (body_bytes b) (flat_map body_bytes bs))

pub length-lengths : (bs : List Sequence) → length (lengths_of bs) ≡ length bs
length-lengths bs = length-map bs (λ b. length (body_bytes b))

-- ---- the header

eight : (n : ℕ) → length (fixed_bytes n) ≡ 8
unfolding fixed_bytes
eight n = refl

entry_long : (e : Entry) → length (entry_bytes e) ≡ 33
entry_long e =
    let a = fixed_bytes e.row.parent in
    let b = fixed_bytes e.row.locals in
    let c = fixed_bytes e.place in
    let d = fixed_bytes e.length in
    let whole : length (a ++ b ++ c ++ d) ≡ 32 = omega (arith, length-append (a ++ b ++ c) d, length-append (a ++ b) c, length-append a b, eight e.row.parent, eight e.row.locals, eight e.place, eight e.length) in
    ap suc whole

entries_long : (es : List Entry) → length (flat_map entry_bytes es) ≡ 33 * length es
entries_long [] = omega arith
entries_long (e ∷ es) = omega (arith, length-append (entry_bytes e) (flat_map entry_bytes es), entry_long e, entries_long es)

pub head_long : (h : Head) → length (head_bytes h) ≡ head_length h.path (length h.entries)
unfolding head_length
head_long h =
    let t = text_bytes h.path in
    let n = number_bytes (length h.entries) in
    let es = flat_map entry_bytes h.entries in
    let whole : length (t ++ (n ++ es)) ≡ length t + (length n + 33 * length h.entries) = omega (arith, length-append t (n ++ es), length-append n es, entries_long h.entries) in
    ap (λ (k : ℕ). suc (suc (suc (suc k)))) whole ∙ omega arith

-- ---- the unit

pub length-entries : (place : ℕ) (rows : List IndexRow) (lens : List ℕ) → length lens ≡ length rows → length (entries_of place rows lens) ≡ length rows
length-entries place [] [] e = refl
length-entries place [] (n ∷ lens) e = absurd (omega arith)
length-entries place (row ∷ rows) [] e = absurd (omega arith)
length-entries place (row ∷ rows) (n ∷ lens) e = ap suc (length-entries (place + n) rows lens (omega arith))

row_at : (rows : List IndexRow) (k : ℕ) (d : IndexRow) → k < length rows → slice_get rows k ≡ Some (get_or rows k d)
row_at [] k d lt = absurd (omega arith)
row_at (row ∷ rows) zero d lt = refl
row_at (row ∷ rows) (suc k) d lt = row_at rows k d (omega arith)

abbrev HasSmallParent : IndexRow → Type 0
HasSmallParent row = IsNumber row.parent

parent_small : (k : ℕ) (row : IndexRow) → IsIndexRow k row → IsNumber k → HasSmallParent row
parent_small zero row is small = rw (is.top refl) (omega arith)
parent_small (suc k) row is small = let below : row.parent < suc k = is.below (omega arith) in omega arith

parents_small : (rows : List IndexRow) → AreIndexRows rows → IsNumber (length rows) → AllByRecursion HasSmallParent rows
parents_small rows are small =
    recursion_from_All HasSmallParent rows (λ k d lt. parent_small k (get_or rows k d) (are.each k (get_or rows k d) (row_at rows k d lt)) (omega (arith, lt, small)))

entries_fit : (place : ℕ) (rows : List IndexRow) (lens : List ℕ) → AllByRecursion HasSmallParent rows → AllByRecursion (λ (row : IndexRow). IsNumber row.locals) rows → IsNumber (place + total lens) → AllByRecursion IsEntry (entries_of place rows lens)
entries_fit place [] lens parents locals small = tt
entries_fit place (row ∷ rows) [] parents locals small = tt
entries_fit place (row ∷ rows) (n ∷ lens) parents locals small =
    let whole : place + (n + total lens) < 2 ^ 64 = small in
    (record { parent = parents.0; locals = locals.0; place = omega (arith, whole); length = omega (arith, whole) }, entries_fit (place + n) rows lens parents.1 locals.1 (omega (arith, whole)))

-- the header of a unit that has a dump, and the bodies behind it
pub head_of_unit : (u : CompiledUnit) (bytes : List ℕ) → Spells u bytes → IsHead (head_of u)
unfolding head_of
head_of_unit u bytes s =
    let lens = lengths_of u.bodies in
    let place = head_length u.path (length u.rows) in
    let entries = entries_of place u.rows lens in
    let head : Head = record { path = u.path; entries = entries } in
    let same : length lens ≡ length u.rows = length-lengths u.bodies ∙ s.bodies in
    let count : length entries ≡ length u.rows = length-entries place u.rows lens same in
    let long : length (head_bytes head) ≡ place = head_long head ∙ ap (head_length u.path) count in
    let ends : place + total lens ≡ length bytes = omega (arith, long, total_lengths u.bodies, ap length s.spelled, length-append (head_bytes head) (flat_map body_bytes u.bodies)) in
    record {
      path = s.path;
      entries = (subst IsNumber (sym count) s.count, entries_fit place u.rows lens (parents_small u.rows s.rows s.count) s.locals (subst IsNumber (sym ends) s.small));
      rows = subst AreIndexRows (sym (rows_back place u.rows lens same)) s.rows;
      tiled = subst (λ (n : ℕ). AreTiled n entries) (sym long) (tiled_of place u.rows lens);
      ends = subst (λ (n : ℕ). IsNumber (end_of n entries)) (sym long) (subst IsNumber (sym (end_of_entries place u.rows lens same ∙ ends)) s.small);
    }

-- a header with bodies behind it is that of a unit
locals_of : (es : List Entry) → AllByRecursion IsEntry es → AllByRecursion (λ (row : IndexRow). IsNumber row.locals) (rows_of es)
locals_of [] fits = tt
locals_of (e ∷ es) fits = (fits.0.locals, locals_of es fits.1)

head_back : (h : Head) (bs : List Sequence) → IsHead h → lengths_of bs ≡ lengths h.entries → head_of (unit_of h bs) ≡ h
unfolding head_of
head_back h bs fits same =
    let made : List Entry → Head = λ es. record { path = h.path; entries = es } in
    let count : length (rows_of h.entries) ≡ length h.entries = length-map h.entries (λ e. e.row) in
    let place : head_length h.path (length (rows_of h.entries)) ≡ length (head_bytes h) = ap (head_length h.path) count ∙ sym (head_long h) in
    ap made (ap (λ (n : ℕ). entries_of n (rows_of h.entries) (lengths_of bs)) place ∙ entries_back (length (head_bytes h)) h.entries (lengths_of bs) fits.tiled same)

pub unit_given : (h : Head) (old rest : List ℕ) (bs : List Sequence) (left : List ℕ) → IsHead h → old ≡ head_bytes h ++ rest → bodies_at h.entries rest ≡ found bs left → length left ≡ 0 → IsNumber (length old) → Spells (unit_of h bs) old
unit_given h old rest bs left fits spelled given none small =
    let taken = bodies_takes h.entries rest bs left given in
    let nil : left ≡ [] = nil_from_length left none in
    let bodies : rest ≡ flat_map body_bytes bs = taken.0 ∙ (ap (λ (r : List ℕ). flat_map body_bytes bs ++ r) nil ∙ append-nil (flat_map body_bytes bs)) in
    let count : length (rows_of h.entries) ≡ length h.entries = length-map h.entries (λ e. e.row) in
    let bodies_count : length bs ≡ length h.entries = sym (length-lengths bs) ∙ (ap length taken.2 ∙ length-map h.entries (λ e. e.length)) in
    record {
      rows = fits.rows;
      bodies = bodies_count ∙ sym count;
      path = fits.path;
      count = subst IsNumber (sym count) fits.entries.0;
      locals = locals_of h.entries fits.entries.1;
      each = taken.1;
      small = small;
      spelled = spelled ∙ (ap (λ (r : List ℕ). head_bytes h ++ r) bodies ∙ ap (λ (g : Head). head_bytes g ++ flat_map body_bytes bs) (sym (head_back h bs fits taken.2)));
    }

-- a header that was read is that of each unit whose dump the bytes are
pub head_is : (h : Head) (old rest : List ℕ) → IsHead h → old ≡ head_bytes h ++ rest → (u : CompiledUnit) → Spells u old → (h ≡ head_of u) × (rest ≡ flat_map body_bytes u.bodies)
head_is h old rest fits spelled u s =
    let first = head_exact.again h rest (any_of h fits) in
    let second = head_exact.again (head_of u) (flat_map body_bytes u.bodies) (any_of (head_of u) (head_of_unit u old s)) in
    found_is h (head_of u) rest (flat_map body_bytes u.bodies) (sym first ∙ (ap head_at (sym spelled ∙ s.spelled) ∙ second))

-- then its bodies are read, and nothing is left
pub bodies_are : (u : CompiledUnit) (old : List ℕ) → Spells u old → bodies_at (head_of u).entries (flat_map body_bytes u.bodies) ≡ found u.bodies []
unfolding head_of
bodies_are u old s =
    ap (bodies_at (entries_of (head_length u.path (length u.rows)) u.rows (lengths_of u.bodies))) (sym (append-nil (flat_map body_bytes u.bodies)))
    ∙ bodies_again (head_length u.path (length u.rows)) u.rows u.bodies [] s.bodies s.each

pub read_again : (h : Head) (old rest : List ℕ) → IsHead h → old ≡ head_bytes h ++ rest → (u : CompiledUnit) → Spells u old → bodies_at h.entries rest ≡ found u.bodies []
read_again h old rest fits spelled u s =
    let is = head_is h old rest fits spelled u s in
    ap (λ (g : Head). bodies_at g.entries rest) is.0 ∙ (ap (bodies_at (head_of u).entries) is.1 ∙ bodies_are u old s)

-- ---- one spelling

pub rows_again : (u : CompiledUnit) (bytes : List ℕ) → Spells u bytes → rows_of (head_of u).entries ≡ u.rows
unfolding head_of
rows_again u bytes s = rows_back (head_length u.path (length u.rows)) u.rows (lengths_of u.bodies) (length-lengths u.bodies ∙ s.bodies)

path_again : (u : CompiledUnit) → (head_of u).path ≡ u.path
unfolding head_of
path_again u = refl

more_again : (u : CompiledUnit) (bytes rest : List ℕ) → Spells u bytes → bodies_at (head_of u).entries (flat_map body_bytes u.bodies ++ rest) ≡ found u.bodies rest
unfolding head_of
more_again u bytes rest s = bodies_again (head_length u.path (length u.rows)) u.rows u.bodies rest s.bodies s.each

pub one_unit : (u v : CompiledUnit) (a rest : List ℕ) → Spells u a → Spells v (a ++ rest) → (u ≡ v) × (rest ≡ [])
one_unit u v a rest s t =
    let bodies = flat_map body_bytes u.bodies ++ rest in
    let first = head_exact.again (head_of u) bodies (any_of (head_of u) (head_of_unit u a s)) in
    let second = head_exact.again (head_of v) (flat_map body_bytes v.bodies) (any_of (head_of v) (head_of_unit v (a ++ rest) t)) in
    let bytes : head_bytes (head_of u) ++ bodies ≡ head_bytes (head_of v) ++ flat_map body_bytes v.bodies = sym (ap (λ (bs : List ℕ). bs ++ rest) s.spelled ∙ append_assoc (head_bytes (head_of u)) (flat_map body_bytes u.bodies) rest) ∙ t.spelled in
    let heads = found_is (head_of u) (head_of v) bodies (flat_map body_bytes v.bodies) (sym first ∙ (ap head_at bytes ∙ second)) in
    let same = found_is u.bodies v.bodies rest [] (sym (more_again u a rest s) ∙ (ap (λ (h : Head). bodies_at h.entries bodies) heads.0 ∙ (ap (bodies_at (head_of v).entries) heads.1 ∙ bodies_are v (a ++ rest) t))) in
    let path : u.path ≡ v.path = sym (path_again u) ∙ (ap (λ (h : Head). h.path) heads.0 ∙ path_again v) in
    let rows : u.rows ≡ v.rows = sym (rows_again u a s) ∙ (ap (λ (h : Head). rows_of h.entries) heads.0 ∙ rows_again v (a ++ rest) t) in
    let made : List ℕ → List IndexRow → List Sequence → CompiledUnit = λ p rs bs. record { path = p; rows = rs; bodies = bs } in
    (ap (λ (p : List ℕ). made p u.rows u.bodies) path ∙ (ap (λ (rs : List IndexRow). made v.path rs u.bodies) rows ∙ ap (made v.path v.rows) same.0), same.1)

pub same_unit : (u v : CompiledUnit) (a : List ℕ) → Spells u a → Spells v a → u ≡ v
same_unit u v a s t = (one_unit u v a [] s (subst (λ (bytes : List ℕ). Spells v bytes) (sym (append-nil a)) t)).0

-- ---- what loading answers

pub load_head_fails : (e : ReadError) (old new : List ℕ) → ReadsIt {X = Head} IsHead head_bytes old (Err e) new → IsIt {X = CompiledUnit} (λ u. Spells u old) (Err e)
load_head_fails Memory old new h = tt
load_head_fails NotSpelled old new h = λ u s. h (head_of u) (flat_map body_bytes u.bodies) (head_of_unit u old s) s.spelled

pub load_bodies_fail : (e : ReadError) (h : Head) (old rest : List ℕ) → IsHead h × (old ≡ head_bytes h ++ rest) → Fails e (bodies_at h.entries rest) → IsIt {X = CompiledUnit} (λ u. Spells u old) (Err e)
load_bodies_fail Memory h old rest is none = tt
load_bodies_fail NotSpelled h old rest is none = λ u s. nothing u.bodies [] (sym none ∙ read_again h old rest is.0 is.1 u s)

pub load_more : (h : Head) (old rest : List ℕ) (bs : List Sequence) (left : List ℕ) → IsHead h × (old ≡ head_bytes h ++ rest) → bodies_at h.entries rest ≡ found bs left → 0 < length left → (u : CompiledUnit) → Spells u old → ⊥
load_more h old rest bs left is given more u s =
    let same = found_is bs u.bodies left [] (sym given ∙ read_again h old rest is.0 is.1 u s) in
    absurd (omega (arith, more, ap length same.1))

four : (h : Head) → 0 < length (head_bytes h)
four h = omega arith

-- from a place behind the end there are no bytes, and no unit is spelled by none
pub load_behind : (bytes : List ℕ) (from : ℕ) → length bytes < from → (u : CompiledUnit) → Spells u (drop from bytes) → ⊥
load_behind bytes from lt u s = absurd (omega (arith, ap length s.spelled, length-append (head_bytes (head_of u)) (flat_map body_bytes u.bodies), length-drop from bytes, four (head_of u)))

pub whole_image : (cursor bytes : List ℕ) (from len : ℕ) → cursor ≡ drop from (take len bytes) → len ≡ length bytes → cursor ≡ drop from bytes
whole_image cursor bytes from len e f = e ∙ ap (drop from) (take_all len bytes (omega arith))

-- the same, in the parts that were read
pub unit_made : (h : Head) (old rest : List ℕ) (bs : List Sequence) (left : List ℕ) (rows : List IndexRow) (bodies : List Sequence) → IsHead h × (old ≡ head_bytes h ++ rest) → bodies_at h.entries rest ≡ found bs left → length left ≡ 0 → IsNumber (length old)
    → rows ≡ rows_of h.entries → bodies ≡ bs → Spells (record { path = h.path; rows = rows; bodies = bodies }) old
unit_made h old rest bs left rows bodies is given none small r b =
    let made : List IndexRow → List Sequence → CompiledUnit = λ rs cs. record { path = h.path; rows = rs; bodies = cs } in
    subst (λ (u : CompiledUnit). Spells u old) (sym (ap (λ (rs : List IndexRow). made rs bodies) r ∙ ap (made (rows_of h.entries)) b)) (unit_given h old rest bs left is.0 is.1 given none small)
