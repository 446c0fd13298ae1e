mod WallExamples
