-- The lines of a list of channels, and of what a user adds, one by one.
use Rattle.std.proofs.Common.{ℕ, ◌≡◌, ◌<◌, ◌+◌, List, [], ◌∷◌, ◌++◌, length, get_or, drop, sym, ap, ◌∙◌, append_assoc, append-nil}
use Rattle.std.specs.Prelude.{Result, Ok, Err, OnOk}
use Rattle.std.proofs.lemmas.List.{drop_more}
use Rattle.ch11_setup.specs.declared.setup.SetupChannel.{SetupChannel}
use Rattle.ch11_setup.specs.Attributes.{AttributeData, attribute_line, attributes_text}
use Rattle.ch11_setup.specs.Names.{cleaned, source_name}
use Rattle.ch11_setup.specs.Lines.{channel_attributes}
use Rattle.ch11_setup.specs.Setups.{channels_attributes}
use Rattle.ch11_setup.proofs.AttributesRead.{text_append}

-- one more channel, and those that are left
pub one_channel : (old new all : List ℕ) (n i : ℕ) (channels : List SetupChannel) (default : SetupChannel) (text source name : List ℕ) → i < length channels
    → source ≡ source_name text (get_or channels i default).id → text ≡ (get_or channels i default).name.now
    → name ≡ cleaned (get_or channels i default).name.now
    → new ≡ old ++ attributes_text (channel_attributes n (get_or channels i default).id (get_or channels i default).net source name)
    → old ++ attributes_text (channels_attributes n (drop i channels)) ≡ all
    → new ++ attributes_text (channels_attributes (n + 1) (drop (i + 1) channels)) ≡ all
one_channel old new all n i channels default text source name h named same also e so_far =
    let channel = get_or channels i default in
    let here = channel_attributes n channel.id channel.net (source_name channel.name.now channel.id) (cleaned channel.name.now) in
    let rest = channels_attributes (n + 1) (drop (i + 1) channels) in
    let is : source ≡ source_name channel.name.now channel.id = named ∙ ap (λ l. source_name l channel.id) same in
    ap (λ l. l ++ attributes_text rest) (e ∙ ap (λ l. old ++ attributes_text (channel_attributes n channel.id channel.net l name)) is
    ∙ ap (λ l. old ++ attributes_text (channel_attributes n channel.id channel.net (source_name channel.name.now channel.id) l)) also)
    ∙ append_assoc old (attributes_text here) (attributes_text rest)
    ∙ ap (λ l. old ++ l) (sym (text_append here rest))
    ∙ ap (λ l. old ++ attributes_text (channels_attributes n l)) (sym (drop_more channels i default h))
    ∙ so_far

-- the whole text, from its parts
pub whole_text : (start recorded with_sources with_comment all : List ℕ) (recording sources given : List AttributeData) (comment : AttributeData)
    → start ≡ [] → recorded ≡ start ++ attributes_text recording → with_sources ≡ recorded ++ attributes_text sources
    → with_comment ≡ with_sources ++ attribute_line comment → all ≡ with_comment ++ attributes_text given
    → all ≡ attributes_text (recording ++ (sources ++ (comment ∷ given)))
whole_text start recorded with_sources with_comment all recording sources given comment e0 e1 e2 e3 e4 =
    let r = attributes_text recording in
    let s = attributes_text sources in
    let c = attribute_line comment in
    let g = attributes_text given in
    e4 ∙ ap (λ l. l ++ g) (e3 ∙ ap (λ l. l ++ c) (e2 ∙ ap (λ l. l ++ s) (e1 ∙ ap (λ l. l ++ r) e0)))
    ∙ append_assoc (r ++ s) c g ∙ append_assoc r s (c ++ g)
    ∙ sym (text_append recording (sources ++ (comment ∷ given)) ∙ ap (λ l. r ++ l) (text_append sources (comment ∷ given)))

-- ---- what else the file has

regroup : (o a i e m : List ℕ) → (((o ++ a) ++ i) ++ e) ++ m ≡ o ++ (a ++ (i ++ (e ++ m)))
regroup o a i e m = simp append_assoc

content_text : (old first second third all : List ℕ) (index : List AttributeData) (bits events sources : AttributeData)
    → first ≡ old ++ attribute_line bits → second ≡ first ++ attributes_text index → third ≡ second ++ attribute_line events
    → all ≡ third ++ attribute_line sources → all ≡ old ++ attributes_text (bits ∷ (index ++ (events ∷ sources ∷ [])))
content_text old first second third all index bits events sources e1 e2 e3 e4 =
    let a = attribute_line bits in
    let i = attributes_text index in
    let e = attribute_line events in
    let m = attribute_line sources in
    e4 ∙ ap (λ l. l ++ m) (e3 ∙ ap (λ l. l ++ e) (e2 ∙ ap (λ l. l ++ i) e1)) ∙ regroup old a i e m
    ∙ sym (ap (λ l. old ++ (a ++ l)) (text_append index (events ∷ sources ∷ []) ∙ ap (λ l. i ++ (e ++ l)) (append-nil m)))

pub content_added : {T E : Type 0} (result : Result T E) (old first second third all : List ℕ) (index : List AttributeData)
    (bits events sources : AttributeData) → first ≡ old ++ attribute_line bits → second ≡ first ++ attributes_text index
    → third ≡ second ++ attribute_line events → OnOk result (all ≡ third ++ attribute_line sources)
    → OnOk result (all ≡ old ++ attributes_text (bits ∷ (index ++ (events ∷ sources ∷ []))))
content_added (Ok u) old first second third all index bits events sources e1 e2 e3 e4 =
    content_text old first second third all index bits events sources e1 e2 e3 e4
content_added (Err e) old first second third all index bits events sources e1 e2 e3 e4 = tt
