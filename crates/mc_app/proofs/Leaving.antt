-- What a call leaves in the files.
use Rattle.std.proofs.Common.{◌≡◌, ◌∙◌, ◌≤◌, ℕ, List, length, sym, ap, subst, arith, inl, inr}
use Rattle.std.specs.Prelude.{IsSome, None, Option, Some, Result, Ok, Err, ⊤}
use Rattle.std.proofs.lemmas.List.{take_all}
use Rattle.mc_load.specs.Inputs.Inputs.{Holds}
use Rattle.mc_outside.specs.declared.outside.FileFault.{FileFault}
use Rattle.mc_outside.specs.declared.outside.FileFault.TheVariants.{Failed, NoMemory}
use Rattle.mc_outside.specs.Outside.{AddsIfTold, Stays}
use Rattle.mc_app.specs.Faults.{fault_status}
use Rattle.mc_app.specs.Printing.{text_of}
use Rattle.mc_app.specs.Analyses.{IsTarget}
use Rattle.mc_app.specs.declared.answer.Answer.{Answer}
use Rattle.mc_app.specs.declared.answer.Status.{Status}
use Rattle.mc_app.specs.declared.answer.Status.TheVariants as statuses
use Rattle.mc_app.specs.Answers.{Answers, EndsWith, HasTarget, HoldsDocument, HoldsFront, IsWhyWords, Keeps, OnlyTargetChanges, TargetHoldsPart, document_of, status_of}

-- a whole document is the front of itself
front_of_whole : (old new : Holds) (name : List ℕ) (document : Option (List ℕ)) → HoldsDocument old new name document → HoldsFront old new name document
front_of_whole old new name None h = h
front_of_whole old new name (Some text) h =
    inr (λ other told. (length text, h other told ∙ ap Some (sym (take_all (length text) text (let le : length text ≤ length text = omega arith in le)))))

-- from before files that have stayed
document_from : (old mid new : Holds) (name : List ℕ) (document : Option (List ℕ)) → Stays old mid → HoldsDocument mid new name document → HoldsDocument old new name document
document_from old mid new name None stays h = h ∙ stays name
document_from old mid new name (Some text) stays h = λ other told. h other (subst (λ (o : Option (List ℕ)). IsSome o) (sym (stays other)) told)

front_from : (old mid new : Holds) (name : List ℕ) (document : Option (List ℕ)) → Stays old mid → HoldsFront mid new name document → HoldsFront old new name document
front_from old mid new name None stays h = h ∙ stays name
front_from old mid new name (Some text) stays (inl same) = inl (same ∙ stays name)
front_from old mid new name (Some text) stays (inr front) = inr (λ other told. front other (subst (λ (o : Option (List ℕ)). IsSome o) (sym (stays other)) told))

-- ---- only the target changes

pub only_stayed : (words : List (List ℕ)) (old new : Holds) → Stays old new → OnlyTargetChanges words old new
only_stayed words old new stays = λ name no. stays name

pub only_target : (words : List (List ℕ)) (target : Option (List ℕ)) (old mid new : Holds) (document : Option (List ℕ)) (r : Result ⊤ FileFault)
    → HasTarget words target → Stays old mid → Keeps mid new target document r → OnlyTargetChanges words old new
only_target words None old mid new document r has stays keeps = λ name no. keeps name ∙ stays name
only_target words (Some t) old mid new document (Ok u) has stays keeps = λ name no. keeps.1 name (λ e. no ((has name).0 (ap Some (sym e)))) ∙ stays name
only_target words (Some t) old mid new document (Err f) has stays keeps = λ name no. keeps.1 name (λ e. no ((has name).0 (ap Some (sym e)))) ∙ stays name

-- ---- what the target holds

pub part_stayed : (words : List (List ℕ)) (old new : Holds) → Stays old new → TargetHoldsPart words old new
part_stayed words old new stays = λ name is. inl (stays name)

-- the document of an answer is written, or the front of it
kept_front : (target : Option (List ℕ)) (name : List ℕ) (old mid new : Holds) (document : Option (List ℕ)) (r : Result ⊤ FileFault) → target ≡ Some name → Stays old mid
    → Keeps mid new target document r → HoldsFront old new name document
kept_front None name old mid new document r e stays keeps = cc
kept_front (Some t) name old mid new document (Ok u) e stays keeps =
    let same : t ≡ name = cc in subst (λ (n : List ℕ). HoldsFront old new n document) same (front_from old mid new t document stays (front_of_whole mid new t document keeps.0))
kept_front (Some t) name old mid new document (Err f) e stays keeps =
    let same : t ≡ name = cc in subst (λ (n : List ℕ). HoldsFront old new n document) same (front_from old mid new t document stays keeps.0)

pub target_part : (words : List (List ℕ)) (target : Option (List ℕ)) (old mid new : Holds) (a : Answer) (r : Result ⊤ FileFault) → HasTarget words target → Stays old mid
    → IsWhyWords old words a → Keeps mid new target (document_of a) r → TargetHoldsPart words old new
target_part words target old mid new a r has stays why keeps = λ name is. inr (a, why, kept_front target name old mid new (document_of a) r ((has name).1 is) stays keeps)

kept_whole : (target : Option (List ℕ)) (name : List ℕ) (old mid new : Holds) (document : Option (List ℕ)) (u : ⊤) → target ≡ Some name → Stays old mid
    → Keeps mid new target document (Ok u) → HoldsDocument old new name document
kept_whole None name old mid new document u e stays keeps = cc
kept_whole (Some t) name old mid new document u e stays keeps =
    let same : t ≡ name = cc in subst (λ (n : List ℕ). HoldsDocument old new n document) same (document_from old mid new t document stays keeps.0)

pub leaves_document : (words : List (List ℕ)) (target : Option (List ℕ)) (old mid new : Holds) (document : Option (List ℕ)) (u : ⊤) → HasTarget words target → Stays old mid
    → Keeps mid new target document (Ok u) → (name : List ℕ) → IsTarget words name → HoldsDocument old new name document
leaves_document words target old mid new document u has stays keeps = λ name is. kept_whole target name old mid new document u ((has name).1 is) stays keeps

-- ---- ends

pub ended : (holds after : Holds) (words : List (List ℕ)) (old new : Option (List ℕ)) (s : Status) → Answers holds after words old new s → EndsWith holds after words old new s
ended holds after words old new statuses.Good a = a
ended holds after words old new statuses.Alarm a = a
ended holds after words old new statuses.Words a = a
ended holds after words old new statuses.Program a = a
ended holds after words old new statuses.Definitions a = a
ended holds after words old new statuses.Limit a = a
ended holds after words old new statuses.Document a = a
ended holds after words old new statuses.Device a = tt
ended holds after words old new statuses.Memory a = tt

pub fault_ends : (holds after : Holds) (words : List (List ℕ)) (old new : Option (List ℕ)) (fault : FileFault) (s : Status) → s ≡ fault_status fault → EndsWith holds after words old new s
fault_ends holds after words old new Failed s e = subst (λ (x : Status). EndsWith holds after words old new x) (sym e) tt
fault_ends holds after words old new NoMemory s e = subst (λ (x : Status). EndsWith holds after words old new x) (sym e) tt

-- a call that printed an answer ends with its status
pub answer_ends : (holds mid after : Holds) (words : List (List ℕ)) (target : Option (List ℕ)) (old new : Option (List ℕ)) (a : Answer) (s : Status) (u v : ⊤) → s ≡ status_of a
    → IsWhyWords holds words a → HasTarget words target → Stays holds mid → Keeps mid after target (document_of a) (Ok u) → AddsIfTold old (text_of a) new (Ok v)
    → EndsWith holds after words old new s
answer_ends holds mid after words target old new a s u v e why has stays keeps prints =
    ended holds after words old new s
    (record { answer = a; is_its = e; why = why; leaves = leaves_document words target holds mid after (document_of a) u has stays keeps; prints = prints })
