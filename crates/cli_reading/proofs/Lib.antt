mod Passes
mod ExportEndings
mod CountedLines
