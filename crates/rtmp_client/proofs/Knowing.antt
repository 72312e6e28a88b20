-- Values that are read one after the other, and where they stop
use Rattle.std.proofs.Common.{◌≡◌, ℕ, List, [], length, refl, sym, ap, subst, ◌∙◌, arith, Option, Some, None, inl, inr, ◌⊎◌}
use Rattle.std.specs.Prelude.{codes, unwrap_or, Result, Ok, Err}
use Rattle.amf0_value.specs.declared.fail.Stop.{Stop}
use Rattle.amf0_value.specs.declared.fail.AmfFail.{AmfFail}
use Rattle.amf0_value.specs.declared.fail.AmfFail.TheVariants as fail
use Rattle.amf0_value.specs.declared.walk.Brief.{Brief}
use Rattle.amf0_value.specs.Brief.{HasBrief, HasPair, brief_of, pair_of}
use Rattle.amf0_value.specs.Tree.{Tree, number, boolean, text, object, null, undefined, reference, ecma, strict, date, long, unsupported, xml, typed, Items, no_items, item, number_in, text_in}
use Rattle.amf0_value.specs.Refusal.{StopsAll, RefusesAll, placed_of}
use Rattle.amf0_value.specs.Reading.{Fails, Left, ReadsItems, ReadsValue}
use Rattle.amf0_value.proofs.Within.{all_stops_within}
use Rattle.amf0_value.proofs.Placed.{is_at}
use Rattle.amf0_value.proofs.Again.{one_value, values_are, refusal_is}
use Rattle.rtmp_command.specs.declared.command.CommandFail.{CommandFail}
use Rattle.rtmp_command.specs.declared.command.CommandFail.TheVariants as command
use Rattle.rtmp_command.specs.Commands.{command_fail, parts_behind, parts_of, transaction_of}
use Rattle.rtmp_command.specs.Heard.{number_in_brief}
use Rattle.client_owed.specs.News.{news_from, news_in, news_of, news_or_none, text_of}
use Rattle.rtmp_client.specs.declared.known.Fourth.{Fourth}
use Rattle.rtmp_client.specs.declared.known.Known.{Known}
use Rattle.rtmp_client.specs.Known.{HasFourth, behind_first, behind_name, behind_transaction, bits_in_brief, known_of, news_by, news_or, text_in_brief}

-- a value in brief has its text and its number
text_brief : (v : Tree) → text_in_brief (brief_of v) ≡ text_in v
text_brief (number n) = refl
text_brief (boolean b) = refl
text_brief (text t) = refl
text_brief (object ms) = refl
text_brief null = refl
text_brief undefined = refl
text_brief (reference n) = refl
text_brief (ecma n ms) = refl
text_brief (strict vs) = refl
text_brief (date bits zone) = refl
text_brief (long t) = refl
text_brief unsupported = refl
text_brief (xml t) = refl
text_brief (typed name ms) = refl

pub bits_brief : (v : Tree) → bits_in_brief (brief_of v) ≡ number_in v
bits_brief (number n) = refl
bits_brief (boolean b) = refl
bits_brief (text t) = refl
bits_brief (object ms) = refl
bits_brief null = refl
bits_brief undefined = refl
bits_brief (reference n) = refl
bits_brief (ecma n ms) = refl
bits_brief (strict vs) = refl
bits_brief (date bits zone) = refl
bits_brief (long t) = refl
bits_brief unsupported = refl
bits_brief (xml t) = refl
bits_brief (typed name ms) = refl

number_brief : (v : Tree) → number_in_brief (brief_of v) ≡ transaction_of v
number_brief (number n) = refl
number_brief (boolean b) = refl
number_brief (text t) = refl
number_brief (object ms) = refl
number_brief null = refl
number_brief undefined = refl
number_brief (reference n) = refl
number_brief (ecma n ms) = refl
number_brief (strict vs) = refl
number_brief (date bits zone) = refl
number_brief (long t) = refl
number_brief unsupported = refl
number_brief (xml t) = refl
number_brief (typed name ms) = refl

-- ---- what is read says what the definition says

behind_args : (name : List ℕ) (transaction : ℕ) (args : Items) → news_by (behind_transaction name transaction args) ≡ news_of (record { name = name; transaction = transaction; args = args })
behind_args name transaction no_items = refl
behind_args name transaction (item third no_items) = refl
behind_args name transaction (item third (item v rest)) = refl

behind_all : (name : List ℕ) (vs : Items) → news_by (behind_name name vs) ≡ news_of (parts_behind name vs)
behind_all name no_items = refl
behind_all name (item v vs) = ap (λ (n : ℕ). news_by (behind_transaction name n vs)) (number_brief v) ∙ behind_args name (transaction_of v) vs

first_case : (t : Option (List ℕ)) (vs : Items) → news_or (behind_first t vs) ≡ news_or_none (Rattle.std.specs.Prelude.option_map (λ name. parts_behind name vs) t)
first_case None vs = refl
first_case (Some name) vs = ap Ok (behind_all name vs)

same_news : (vs : Items) → news_or (known_of vs) ≡ news_or_none (parts_of vs)
same_news no_items = refl
same_news (item v vs) = ap (λ (t : Option (List ℕ)). news_or (behind_first t vs)) (text_brief v) ∙ first_case (text_in v) vs

pub tells : (body : List ℕ) (vs : Items) (o : Option Known) → ReadsItems 0 body vs [] → o ≡ known_of vs → news_in body ≡ news_or o
unfolding news_in
tells body vs o h e = ap news_from (values_are vs body h.0 (omega (arith, h.1))) ∙ sym (same_news vs) ∙ ap news_or (sym e)

refuses : (body : List ℕ) (f : AmfFail) → (f ≡ fail.OutOfMemory) ⊎ RefusesAll body f → (command_fail f ≡ command.OutOfMemory) ⊎ (news_in body ≡ Err (command_fail f))
unfolding news_in
refuses body f h = elim h [ inl e ↦ inl (ap command_fail e) | inr a ↦ inr (ap news_from (refusal_is body f a)) ]

pub tells_not : (body : List ℕ) (s : Stop) (f : AmfFail) (e : CommandFail) → Fails (Left (StopsAll body)) s → f ≡ placed_of (length body) s → e ≡ command_fail f → (e ≡ command.OutOfMemory) ⊎ (news_in body ≡ Err e)
tells_not body s f e h p is =
    subst (λ (x : CommandFail). (x ≡ command.OutOfMemory) ⊎ (news_in body ≡ Err x)) (sym is) (refuses body f (is_at (StopsAll body) body s f (all_stops_within body) h p))

-- ---- three looks at one value

same_value : (v w : Tree) (bytes rest other : List ℕ) → ReadsValue 0 bytes v rest → ReadsValue 0 bytes w other → v ≡ w
same_value v w bytes rest other a b = (one_value v w bytes rest other a.0 b.0 (omega (arith, a.1)) (omega (arith, b.1))).0

pub fourth_read : (bytes after later last rest : List ℕ) (level code description : Option (Option Brief)) (value : Brief) (f : Fourth) → HasPair (codes "level") bytes level after → HasPair (codes "code") bytes code later
    → HasPair (codes "description") bytes description last → HasBrief 0 bytes value rest
    → f ≡ record { number = bits_in_brief value; level = unwrap_or (text_of level) []; code = unwrap_or (text_of code) []; description = unwrap_or (text_of description) [] } → HasFourth bytes f rest
fourth_read bytes after later last rest level code description value f a b d h e =
    let one : level ≡ pair_of (codes "level") h.0 = a.2 ∙ ap (pair_of (codes "level")) (same_value a.0 h.0 bytes after rest a.1 h.1) in
    let two : code ≡ pair_of (codes "code") h.0 = b.2 ∙ ap (pair_of (codes "code")) (same_value b.0 h.0 bytes later rest b.1 h.1) in
    let four : description ≡ pair_of (codes "description") h.0 = d.2 ∙ ap (pair_of (codes "description")) (same_value d.0 h.0 bytes last rest d.1 h.1) in
    let three : bits_in_brief value ≡ number_in h.0 = ap bits_in_brief h.2 ∙ bits_brief h.0 in
    (h.0, h.1, e ∙ rw (one, two, three, four) refl)
