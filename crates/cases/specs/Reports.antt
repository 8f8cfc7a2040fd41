-- What is written of the files that arguments name.
use Rattle.std.specs.Prelude.{◌⊎◌, List, ℕ, [], ◌∷◌, ◌++◌, Option, IfSome, codes}
use Rattle.std.specs.Io.BufRead.{take_through, drop_through}
use Rattle.std.specs.Io.KnownBytes.{Appends}

-- of a file that is read its name, its first line, with its end, and what the report on the rest displays, on the next line
abbrev pub report_text : List ℕ → List ℕ → List ℕ → List ℕ
report_text name line report = name ++ codes ": " ++ line ++ report ++ 10 ∷ []

-- of one that cannot be read
abbrev pub unread_text : List ℕ → List ℕ
unread_text name = name ++ codes ": cannot be read\n"

module _ {T : Type 0} (output : T → Option (List ℕ)) (Reports : List ℕ → T → Type 0) where
  -- what is known of the output grows by the report on some file of this name
  abbrev pub WritesReport : Option (List ℕ) → List ℕ → List ℕ → Option (List ℕ) → Type 0
  WritesReport old name file new =
      (report : T) × Reports (drop_through 10 file) report × IfSome (output report) (λ text. Appends old new (report_text name (take_through 10 file) text))

  -- or by the name, and that its file cannot be read
  abbrev pub WritesArgument : Option (List ℕ) → List ℕ → Option (List ℕ) → Type 0
  WritesArgument old name new = ((file : List ℕ) × WritesReport old name file new) ⊎ Appends old new (unread_text name)
