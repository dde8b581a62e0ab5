-- What is said of a reply, and what of a buffer is printed after it.
use Rattle.std.specs.Prelude.{List, [], ◌++◌, ℕ, take, Result, Ok, Err, codes, decimal}
use Rattle.base.specs.Answer.{number_of}
use Rattle.base.specs.declared.refusals.Refusal.{Refusal}

-- what came of a call: what is said where it is done, or the refusal
abbrev pub came : {M : Type 0} → List ℕ → Result M Refusal → List ℕ
came done (Ok m) = done
came done (Err r) = codes "refused " ++ decimal (number_of r)

-- what was asked, and what came of it
abbrev pub said : {M : Type 0} → List ℕ → List ℕ → Result M Refusal → List ℕ
said asked done reply = asked ++ (codes ": " ++ came done reply)

-- the bytes that a reply says are written at the start of a buffer: none where it is refused
abbrev pub written : {A : Type 0} → Result ℕ Refusal → List A → List A
written (Ok length) buffer = take length buffer
written (Err r) buffer = []
