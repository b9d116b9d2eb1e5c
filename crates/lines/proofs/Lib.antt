-- Laws: of words and numbers at a place (`TextLaws`), of loops over fields (`FieldLaws`) and lines (`LineLaws`), of what is printed
-- (`PrintLaws`) and written (`WriteLaws`). A theorem: what is printed is read back (`RoundTrip`).
pub mod TextLaws
pub mod FieldLaws
pub mod LineLaws
pub mod WriteLaws
pub mod PrintLaws
pub mod RoundTrip
