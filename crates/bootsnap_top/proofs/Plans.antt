-- What a plan comes to, in the words of the top call.
use Rattle.std.proofs.Common.{◌≡◌, inl, Bool, ℕ, List, [], Option, Some, None, Ok, Err, Result, IfSome, refl, sym, ◌∙◌, ap, subst}
use Rattle.bs_outside.specs.History.{History}
use Rattle.bs_outside.specs.SourceTree.{SourceTree}
use Rattle.bs_outside.specs.Told.{added}
use Rattle.bs_outside.proofs.Since.{since-nothing}
use Rattle.bs_outside.proofs.Owing.{none_came}
use Rattle.cache_meaning.specs.Entry.{file_at}
use Rattle.cache_meaning.specs.Fits.{IsTrusted}
use Rattle.cache_meaning.specs.LeftOut.{none}
use Rattle.compile_cache.specs.Fetching.{IsTrustedFor}
use Rattle.compile_cache.specs.declared.mode.CacheUse.{CacheUse}
use Rattle.compile_cache.specs.declared.mode.CacheUse.TheVariants.{On}
use Rattle.compile_cache.specs.declared.mode.Mode.{Mode}
use Rattle.bootsnap_top.specs.Plan.{mode_of, instrument_of, path_of}
use Rattle.bootsnap_top.specs.Answer.{usage_text, answer_of_plan}
use Rattle.bootsnap_top.specs.CachedRun.{cache_of_plan, files_of_plan, is_noted, notes_with, notes_of_plan, IsPartOfRun}
use Rattle.bootsnap_top.specs.Endings.{IfWhole}
use Rattle.bootsnap_top.specs.declared.ending.Ending.{Ending}
use Rattle.bootsnap_top.specs.declared.planning.Planned.{Planned}

module _ (tells : Bool) (old new : History) (before after : ℕ) (reads_before reads_after : Option (List (List ℕ))) (notes_before notes_after : Option (List ℕ)) (nothing_written : Type 0) where
  -- the run of a file is the run of the plan that asks for it
  pub part_planned : (o : Option SourceTree) (plan : Result Planned ℕ) (planned : Planned) (mode : Mode) (instrument : Bool) (path : List ℕ) → plan ≡ Ok planned → mode ≡ mode_of planned → instrument ≡ instrument_of planned → path ≡ path_of planned → cache_of_plan plan ≡ On
      → (mode.cache ≡ On → IfSome o (λ m. IsTrusted tells m old → IsPartOfRun (file_at m path) (notes_with instrument) old new before after reads_before reads_after notes_before notes_after nothing_written))
      → IfSome o (λ m. IsTrusted tells m old → IsPartOfRun (files_of_plan m plan) (notes_of_plan plan) old new before after reads_before reads_after notes_before notes_after nothing_written)
  part_planned None plan planned mode instrument path is mode_is instrument_is path_is on part = tt
  part_planned (Some m) plan planned mode instrument path is mode_is instrument_is path_is on part =
      λ trusted.
      let used : (mode_of planned).cache ≡ On = subst (λ (p : Result Planned ℕ). cache_of_plan p ≡ On) is on in
      let noted : instrument ≡ is_noted (mode_of planned).cache (instrument_of planned) = instrument_is ∙ sym (ap (λ (u : CacheUse). is_noted u (instrument_of planned)) used) in
      subst (λ (p : Result Planned ℕ). IsPartOfRun (files_of_plan m p) (notes_of_plan p) old new before after reads_before reads_after notes_before notes_after nothing_written) (sym is)
      (subst (λ (b : Bool). IsPartOfRun (file_at m (path_of planned)) (notes_with b) old new before after reads_before reads_after notes_before notes_after nothing_written) noted
      (subst (λ (p : List ℕ). IsPartOfRun (file_at m p) (notes_with instrument) old new before after reads_before reads_after notes_before notes_after nothing_written) path_is (part (ap (λ (o : Mode). o.cache) mode_is ∙ used) trusted)))

-- nothing was begun
pub nothing_begun : (tells : Bool) (o : Option SourceTree) (plan : Result Planned ℕ) (h : History) (count : ℕ) (reads : Option (List (List ℕ))) (told : Option (List ℕ)) (nothing_written : Type 0) → nothing_written
    → IfSome o (λ m. IsTrusted tells m h → IsPartOfRun (files_of_plan m plan) (notes_of_plan plan) h h count count reads reads told told nothing_written)
nothing_begun tells None plan h count reads told nothing_written nothing = tt
nothing_begun tells (Some m) plan h count reads told nothing_written nothing =
    λ trusted. inl (inl (record { visits = []; some = inl refl; put = []; since = since-nothing h; part = none; reads = none_came reads [] }, refl), nothing)

-- the error text of a bad word
pub usage_errors : (use_ : CacheUse) (tells : Bool) (o : Option SourceTree) (h : History) (plan : Result Planned ℕ) (place : ℕ) (ending : Ending) (before after : Option (List ℕ)) → plan ≡ Err place
    → IfWhole ending (after ≡ added before (usage_text place)) → IfSome o (λ m. IsTrustedFor use_ tells m h → IfWhole ending (after ≡ added before (answer_of_plan m plan).errors))
usage_errors use_ tells None h plan place ending before after is written = tt
usage_errors use_ tells (Some m) h plan place ending before after is written =
    λ trusted. subst (λ (p : Result Planned ℕ). IfWhole ending (after ≡ added before (answer_of_plan m p).errors)) (sym is) written
