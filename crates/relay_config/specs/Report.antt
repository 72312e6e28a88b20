-- The line that reports a refused configuration
use Rattle.std.specs.Prelude.{ℕ, ◌++◌, ◌||◌, ◌==◌, nat_lt, if◌then◌else◌, List, ◌∷◌, [], codes}
use Rattle.std.specs.Fmt.{decimal}
use Rattle.relay_config.specs.declared.config.ConfigFail.{ConfigFail}
use Rattle.relay_config.specs.declared.config.ConfigFail.TheVariants.{NotToml, Unknown, Missing, Range, Twice, TooMuch, OutOfMemory}
use Rattle.relay_config.specs.Names.{name_of}

-- a byte of a key as it is shown: `?` stands for a control character, so that the report is one line
abbrev pub shown : ℕ → ℕ
shown b = if nat_lt b 32 || b == 127 then 63 else b

-- what a byte shows behind the byte before it: in UTF-8 0xC2 begins U+0080 to U+00BF, and is shown with the
-- byte behind it; U+0080 to U+009F are control characters, too
abbrev pub piece : ℕ → ℕ → List ℕ
piece before b = if b == 194 then [] else (if before == 194 then (if nat_lt b 160 then 63 ∷ [] else 194 ∷ b ∷ []) else shown b ∷ [])

abbrev pub shown_text : ℕ → List ℕ → List ℕ
shown_text before [] = []
shown_text before (b ∷ bytes) = piece before b ++ shown_text b bytes

abbrev pub cause_text : ConfigFail → List ℕ
cause_text NotToml = codes "not toml"
cause_text (Unknown key) = codes "unknown " ++ shown_text 0 key
cause_text (Missing key) = codes "missing " ++ name_of key
cause_text (Range key) = codes "range " ++ name_of key
cause_text (Twice place) = codes "twice " ++ decimal place
cause_text (TooMuch sum) = codes "too much " ++ decimal sum
cause_text OutOfMemory = codes "out of memory"

abbrev pub report_text : ConfigFail → List ℕ
report_text e = codes "bad configuration " ++ cause_text e ++ codes "\n"
