use Rattle.std.proofs.Common.{◌≡◌, ◌≤◌, ℕ, true, sym, ◌∙◌, ap, arith, List, ◌++◌, length, drop, length-drop}
use Rattle.std.proofs.lemmas.List.{take_all}
use Rattle.cache_key.specs.Key.{is_hashed, folder_of}
use Rattle.cache_key.proofs.NameLemmas.{text_is, length-hex_of}
use Rattle.cache_key.proofs.names.name_text.Goals as goal
use Rattle.cache_key.proofs.names.name_text.Goals.{in-Iseq, in-Yaml, in-Json}

pub returns : goal.returns
returns c =
    let hashed : is_hashed c.args.name.now.kind ≡ true = elim c.match-name.branch [
      | in-Iseq w ↦ ap is_hashed w.in-Iseq.is
      | in-Yaml w ↦ ap is_hashed w.in-Yaml.is
      | in-Json w ↦ ap is_hashed w.in-Json.is
    ] in
    let folder : c.match-name.folder.now ≡ folder_of c.args.name.now.kind = elim c.match-name.branch [
      | in-Iseq w ↦ ap (λ b. b.now) w.folder-is ∙ sym (ap folder_of w.in-Iseq.is)
      | in-Yaml w ↦ ap (λ b. b.now) w.folder-is ∙ sym (ap folder_of w.in-Yaml.is)
      | in-Json w ↦ ap (λ b. b.now) w.folder-is ∙ sym (ap folder_of w.in-Json.is)
    ] in
    let digits = c.hex_digits-digits.result in
    let long : length (drop 2 digits) ≤ 14 = omega (arith, length-drop 2 digits, ap length c.hex_digits-digits.ensures, length-hex_of 16 c.args.name.now.hash) in
    let all : c.extend_from_slice-2.new.self.items ≡ c.push.new.self.items ++ drop 2 digits = c.in_ok-extend_from_slice-2.ensures.items ∙ ap (λ (l : List ℕ). c.push.new.self.items ++ l) (take_all 14 (drop 2 digits) long) in
    c.from_vec.ensures ∙ text_is c.args.name.now _ _ _ _ _ _ hashed folder c.hex_digits-digits.ensures c.in_ok-text.ensures.items c.in_ok-extend_from_slice.ensures.items c.in_ok-push.ensures.items all
