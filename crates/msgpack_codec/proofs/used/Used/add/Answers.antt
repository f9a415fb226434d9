use Rattle.std.proofs.Common.{◌≡◌, ◌∙◌, ℕ, ap, sym, ◌+◌, ◌||◌, not, true, false, cond, length, List, map, Bor}
use Rattle.std.proofs.lemmas.List.{length-map}
use Rattle.std.specs.Str.{bytes_eq}
use Rattle.msgpack_codec.specs.Values.{is_in}
use Rattle.msgpack_codec.proofs.Sets.{list_any-is_in, is_in-insert_key}
use Rattle.msgpack_codec.proofs.used.Used.add.Goals as goal

pub returns-clause-has : goal.returns-clause-has
returns-clause-has c t =
    ap (λ ks. is_in (map (λ (k : Bor (List ℕ)). k.now) ks) t) c.in_ok-insert.ensures.keys
    ∙ is_in-insert_key (λ k. k.now) t c.args.spelling c.self.inside.spellings.keys
    ∙ ap (λ v. bytes_eq t c.args.spelling.now || is_in v t) c.self.view_is

pub returns-clause-length : goal.returns-clause-length
returns-clause-length c =
    let unused : is_in c.args.self.now c.args.spelling.now ≡ false = c.requires in
    let added : c.in_ok-insert.field-0 ≡ true =
    c.in_ok-insert.ensures.added ∙ ap not (list_any-is_in (λ (k : Bor (List ℕ)). k.now) c.args.spelling.now c.self.inside.spellings.keys ∙ ap (λ v. is_in v c.args.spelling.now) c.self.view_is ∙ unused) in
    length-map c.insert.new.self.keys (λ (k : Bor (List ℕ)). k.now)
    ∙ c.in_ok-insert.ensures.len
    ∙ ap (λ b. length c.self.inside.spellings.keys + (cond b 1 0)) added
    ∙ ap (λ n. n + 1) (sym (length-map c.self.inside.spellings.keys (λ (k : Bor (List ℕ)). k.now)) ∙ ap length c.self.view_is)
