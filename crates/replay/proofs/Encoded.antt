-- A file that comes to a run is the encoding of its script.
use Rattle.std.proofs.Common.{◌≡◌, ℕ, List, [], ◌∷◌, ◌++◌, map, sym, refl, ap, ◌∙◌, subst, append_assoc}
use Rattle.std.proofs.lemmas.List.{append-nil, map-append}
use Rattle.messages.specs.declared.message.Message.{Message}
use Rattle.messages.specs.declared.message.Message.TheVariants as says
use Rattle.messages.specs.Messages.{message_bytes}
use Rattle.replay.specs.Files.{Reads, Verdict, bytes_of, script_messages}
use Rattle.replay.specs.Files.Reads.{broken, done, ended, out_of_order, refused, taken}
use Rattle.replay.specs.Files.Verdict.{Faulty, Ran}
use Rattle.replay.specs.Stages.{Stage, Step}
use Rattle.replay.specs.Stages.Stage.{Start, Filing, Drawn, Running, Over}
use Rattle.replay.specs.Stages.Step.{buyer, call, closes, files, opens, terms}

-- the messages that were read up to a stage
abbrev said : Stage → List Message
said Start = []
said (Filing t bs) = says.Terms t ∷ map says.Buyer bs
said (Drawn t bs d) = says.Terms t ∷ (map says.Buyer bs ++ says.Draw d ∷ [])
said (Running t bs d base cs) = says.Terms t ∷ (map says.Buyer bs ++ (says.Draw d ∷ says.Open base ∷ map says.Call cs))
said (Over s) = script_messages s

-- a step adds its message
one_more : {s s' : Stage} {m : Message} → Step s m s' → said s' ≡ said s ++ m ∷ []
one_more terms = refl
one_more (buyer {t} {bs} {b} few) = ap (λ ms. says.Terms t ∷ ms) (map-append says.Buyer bs (b ∷ []))
one_more (files a b) = refl
one_more (opens {t} {bs} {d} filed passed) = ap (λ ms. says.Terms t ∷ ms) (sym (append_assoc (map says.Buyer bs) (says.Draw d ∷ []) _))
one_more (call {t} {bs} {d} {base} {cs} {c}) =
    ap (λ ms. says.Terms t ∷ (map says.Buyer bs ++ (says.Draw d ∷ says.Open base ∷ ms))) (map-append says.Call cs (c ∷ []))
    ∙ ap (λ ms. says.Terms t ∷ ms) (sym (append_assoc (map says.Buyer bs) (says.Draw d ∷ says.Open base ∷ map says.Call cs) _))
one_more (closes {t} {bs} {d} {p} {base} {cs} filed passed) =
    ap (λ ms. says.Terms t ∷ ms) (sym (append_assoc (map says.Buyer bs) (says.Draw d ∷ says.Open base ∷ map says.Call cs) _))

-- the bytes of messages, and of more behind them
bytes_append : (xs ys : List Message) → bytes_of (xs ++ ys) ≡ bytes_of xs ++ bytes_of ys
bytes_append [] ys = refl
bytes_append (x ∷ xs) ys = ap (λ bs. message_bytes x ++ bs) (bytes_append xs ys) ∙ sym (append_assoc (message_bytes x) (bytes_of xs) (bytes_of ys))

-- what is said of the bytes of a file that comes to a verdict
abbrev Encodes : Verdict → List ℕ → Type 0
Encodes (Ran s) bs = bs ≡ bytes_of (script_messages s)
Encodes (Faulty l n at) bs = Unit {0}

-- one message behind those that were read
shifted : (s s' : Stage) (m : Message) (rest behind : List ℕ) → said s' ≡ said s ++ m ∷ [] → rest ≡ message_bytes m ++ behind → bytes_of (said s') ++ behind ≡ bytes_of (said s) ++ rest
shifted s s' m rest behind on is =
    ap (λ ms. bytes_of ms ++ behind) on
    ∙ ap (λ bs. bs ++ behind) (bytes_append (said s) (m ∷ []))
    ∙ append_assoc (bytes_of (said s)) (message_bytes m ++ []) behind
    ∙ ap (λ bs. bytes_of (said s) ++ (bs ++ behind)) (append-nil (message_bytes m))
    ∙ ap (λ bs. bytes_of (said s) ++ bs) (sym is)

pub encoded : {rest : List ℕ} {at : ℕ} {s : Stage} {v : Verdict} → Reads rest at s v → Encodes v (bytes_of (said s) ++ rest)
encoded (done {s = s}) = append-nil (bytes_of (script_messages s))
encoded (ended h) = tt
encoded (broken h k) = tt
encoded (out_of_order h k) = tt
encoded (refused h k) = tt
encoded (taken {rest} {behind} {s = s} {s' = s'} {m = m} {v = v} h step r) = subst (Encodes v) (shifted s s' m rest behind (one_more step) h.bytes) (encoded r)
